use Rattle.std.proofs.Common.{ℕ, ◌+◌, sym, ◌∙◌, rules, tests}
use Rattle.std.specs.List.{range_with_len}
use Rattle.std.proofs.lemmas.Iterator.{YieldsList-from_range, YieldsList-from_map}
use Rattle.std.proofs.lemmas.Iterator.Consumers.{YieldsList-at, YieldsList-from_filter, reduce_from_yields_List}
use Rattle.model.specs.Partial.{lies_on, finish_on}
use Rattle.model.proofs.Chains.{top-ranged, most-kept}
use Rattle.loader.specs.Meaning.{the_graph}
use Rattle.partial.specs.Meaning.{the_partial}
use Rattle.partial.proofs.partial.PartialSchedule.machine_finish.Goals as goal

pub returns-clause-is : goal.returns-clause-is
returns-clause-is c =
    let g = the_graph c.args.g.now in
    let s = the_partial c.args.self.now in
    let p = lies_on s c.args.m in
    let h = λ (u : ℕ). s.start u + g.work u in
    c.unwrap_or.ensures
    ∙ most-kept p h (range_with_len 0 g.tasks) c.max.result (reduce_from_yields_List _ _ c.max.result c.max.ensures.ran
    (YieldsList-from_map _ h
    (YieldsList-at c.map.ensures.source (YieldsList-from_filter _ p (YieldsList-from_range 0 g.tasks g.tasks (search rules) (search rules)) c.filter.ensures.closure (λ x b q k. search (rules, tests))))
    c.map.ensures.closure (λ x r q k. search rules)))
    ∙ sym (top-ranged g.tasks (finish_on g s c.args.m))
