use Rattle.std.proofs.Common.{rules, tests, ◌∙◌}
use Rattle.std.proofs.lemmas.Iterator.{YieldsList-from_slice}
use Rattle.std.proofs.lemmas.Iterator.Search.{any_from_yields_List}
use Rattle.loader.specs.Meaning.{transfers_of}
use Rattle.schedule.specs.Check.{transfer_hasty}
use Rattle.schedule.specs.TaskRows.{rows_graph, rows_schedule}
use Rattle.loader.proofs.Sent.{any-sent}
use Rattle.schedule.proofs.check.TaskRows.is_early.Goals as goal

pub returns : goal.returns
returns c =
    let g = c.args.self.now.graph.now in
    let p = transfer_hasty (rows_graph c.args.self.now) (rows_schedule c.args.self.now) c.args.t in
    any_from_yields_List p _ _ c.any.result c.any.ensures.ran (YieldsList-from_slice (transfers_of g) (cc)) (λ x b q k. search (rules, tests)) ∙ any-sent g (cc) p
