use Rattle.std.proofs.Common.{nat_eq, if◌then◌else◌, ◌∙◌, rules, tests}
use Rattle.std.proofs.lemmas.Iterator.{YieldsList-from_slice, YieldsList-from_map}
use Rattle.std.proofs.lemmas.Iterator.Consumers.{YieldsList-at, YieldsList-from_filter, reduce_from_yields_List}
use Rattle.loader.specs.declared.transfer.Transfer.{Transfer}
use Rattle.loader.specs.Meaning.{the_graph, transfers_of}
use Rattle.partial.specs.Meaning.{the_partial}
use Rattle.partial.specs.Transfers.{transfer_arrival}
use Rattle.model.proofs.Chains.{most-kept}
use Rattle.loader.proofs.Sent.{top-sent}
use Rattle.partial.proofs.partial.PartialSchedule.data_ready.Goals as goal

pub returns-clause-is : goal.returns-clause-is
returns-clause-is c =
    let g = c.args.g.now in
    let p = λ (e : Transfer). nat_eq e.to c.args.t in
    let h = transfer_arrival (the_graph g) (the_partial c.args.self.now) c.args.m in
    c.unwrap_or.ensures
    ∙ most-kept p h (transfers_of g) c.max.result (reduce_from_yields_List _ _ c.max.result c.max.ensures.ran
    (YieldsList-from_map _ h
    (YieldsList-at c.map.ensures.source (YieldsList-from_filter _ p (YieldsList-from_slice (transfers_of g) (cc)) c.filter.ensures.closure (λ x b q k. search (rules, tests))))
    c.map.ensures.closure (λ x r q k. search rules)))
    ∙ top-sent g (cc) (λ (e : Transfer). if p e then h e else 0)
