use Rattle.std.proofs.Common.{◌≤◌, Bool, length, sym, subst}
use Rattle.loader.specs.Meaning.{the_graph}
use Rattle.search.specs.Promise.{InRun}
use Rattle.solve.specs.declared.solve.Solved.{Solved}
use Rattle.solve.specs.Solving.{end_of, is_shortest}
use Rattle.page.specs.Pages.{text_of}
use Rattle.planner.proofs.plan.solved_page.Goals as goal

pub returns-in-Shortest-clause-room : goal.returns-in-Shortest-clause-room
returns-in-Shortest-clause-room g c =
    subst (λ (s : Solved). (done : Bool) → InRun (the_graph c.args.g.now) done (end_of c.args.table.now (g.L.OpenList.bag c.args.list.now) (g.L.OpenList.limit c.args.list.now) s)
    → length (text_of (the_graph c.args.g.now) (is_shortest s) (end_of c.args.table.now (g.L.OpenList.bag c.args.list.now) (g.L.OpenList.limit c.args.list.now) s)) ≤ 4400)
    (sym c.in-Shortest.is) c.page.ensures.room

pub returns-in-Open-clause-room : goal.returns-in-Open-clause-room
returns-in-Open-clause-room g c =
    subst (λ (s : Solved). (done : Bool) → InRun (the_graph c.args.g.now) done (end_of c.args.table.now (g.L.OpenList.bag c.args.list.now) (g.L.OpenList.limit c.args.list.now) s)
    → length (text_of (the_graph c.args.g.now) (is_shortest s) (end_of c.args.table.now (g.L.OpenList.bag c.args.list.now) (g.L.OpenList.limit c.args.list.now) s)) ≤ 4400)
    (sym c.in-Open.is) c.page-in-Open.ensures.room
