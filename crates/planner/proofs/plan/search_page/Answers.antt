use Rattle.std.proofs.Common.{◌≡◌, Ok, Result, sym, refl, ap, ◌∙◌}
use Rattle.model.specs.Bounds.{joined_bound}
use Rattle.loader.specs.Meaning.{the_graph}
use Rattle.nodes.specs.Meaning.{the_nodes}
use Rattle.solve.specs.Solving.{ended}
use Rattle.page.proofs.Telling.{never}
use Rattle.planner.proofs.Pages.{End, at-end, limit-end, one-value}
use Rattle.planner.proofs.plan.search_page.Goals as goal

pair : {A B E : Type 0} (x y : A) (u v : B) (r : Result (A × B) E) → r ≡ Ok (x, u) → x ≡ y → u ≡ v → r ≡ Ok (y, v)
pair x y u v r is p q = is ∙ ap Ok (λ i. (p i, q i))

pub returns : goal.returns
returns g c =
    let e = c.in_ok-solved.ensures in
    let p = c.solved_page.ensures in
    let W : End (the_graph c.args.g.now) (ended (the_graph c.args.g.now) joined_bound (the_nodes c.args.table.now) (g.L.OpenList.limit c.args.list.now) c.args.budget 1) c.solved_page.result c.args.page.now c.solved_page.new.page =
    at-end c.args.g.now c.solve.new.table (g.L.OpenList.bag c.solve.new.list) (g.L.OpenList.limit c.solve.new.list) c.in_ok-solved.solved _ c.solved_page.result c.args.page.now c.solved_page.new.page
    e.is.1 e.is.2 e.solves p.room c.requires.room p.is p.page in
    let n = one-value _ _ _ c.in_ok-length.was W.0 in
    let by = c.limit_of.ensures ∙ limit-end (the_graph c.args.g.now) c.solve.new.table (g.L.OpenList.bag c.solve.new.list) (g.L.OpenList.limit c.solve.new.list) c.in_ok-solved.solved _ c.args.budget e.is.1 e.is.2 in
    (pair _ _ _ _ _ refl n by, W.1, W.2)

pub returns-in_err-length : goal.returns-in_err-length
returns-in_err-length g c =
    let e = c.in_ok-solved.ensures in
    let p = c.solved_page.ensures in
    let W : End (the_graph c.args.g.now) (ended (the_graph c.args.g.now) joined_bound (the_nodes c.args.table.now) (g.L.OpenList.limit c.args.list.now) c.args.budget 1) c.solved_page.result c.args.page.now c.solved_page.new.page =
    at-end c.args.g.now c.solve.new.table (g.L.OpenList.bag c.solve.new.list) (g.L.OpenList.limit c.solve.new.list) c.in_ok-solved.solved _ c.solved_page.result c.args.page.now c.solved_page.new.page
    e.is.1 e.is.2 e.solves p.room c.requires.room p.is p.page in
    never _ _ (sym W.0 ∙ c.in_err-length.was)
