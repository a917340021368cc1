use Rattle.std.proofs.Common.{◌≡◌, ℕ, rules, tests, sym, subst, ◌∙◌, arith, get_or}
use Rattle.std.specs.List.{reduce, range_with_len, filter}
use Rattle.std.specs.Ordering.{nat_cmp}
use Rattle.std.specs.declared.cmp.Reverse.{Reverse}
use Rattle.std.proofs.lemmas.Iterator.{YieldsList-from_range}
use Rattle.std.proofs.lemmas.Iterator.Consumers.{YieldsList-from_filter}
use Rattle.model.proofs.Starts.{lawful-dag}
use Rattle.std.specs.Option.{IsSomeAnd}
use Rattle.model.specs.Partial.{is_free}
use Rattle.loader.specs.Meaning.{the_graph, levels_of}
use Rattle.loader.proofs.Laws.{the_lawful}
use Rattle.partial.specs.Meaning.{the_partial}
use Rattle.schedule.specs.ListSchedule.{next_free, Next}
use Rattle.schedule.proofs.Picking.{pick, least-picked}
use Rattle.schedule.proofs.Choosing.{next-found, next-law}
use Rattle.schedule.proofs.list.next_task.Goals as goal

pub returns : goal.returns
returns c =
    let g = c.args.g.now in
    let G = the_graph g in
    let s = the_partial c.args.q.now in
    let key : ℕ → Reverse ℕ = λ t. record { 0 = get_or (levels_of g) t 0 } in
    let by = λ (x : Reverse ℕ) (y : Reverse ℕ). nat_cmp y.0 x.0 in
    let e : c.min_by_key.result ≡ reduce (pick by key) (filter (is_free G s) (range_with_len 0 G.tasks)) =
    least-picked by key _ (λ x k q d. search (rules, tests)) _ c.min_by_key.result c.min_by_key.ensures.ran
    (YieldsList-from_filter _ (is_free G s) (YieldsList-from_range 0 _ G.tasks c.filter.ensures.source (omega arith)) c.filter.ensures.closure (λ x b q k. search (rules, tests))) in
    let is : c.min_by_key.result ≡ next_free G s = e ∙ next-found g s in
    record { is = is; law = λ u. subst (λ o. IsSomeAnd o (Next G s)) (sym is) (next-law G (lawful-dag (the_lawful g)) s u) }
