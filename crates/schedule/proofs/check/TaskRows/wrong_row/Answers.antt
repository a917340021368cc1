use Rattle.std.proofs.Common.{rules, tests}
use Rattle.schedule.specs.Check.{wrong}
use Rattle.schedule.specs.TaskRows.{rows_graph, rows_schedule}
use Rattle.model.proofs.Chains.{lowest-below}
use Rattle.schedule.proofs.check.TaskRows.wrong_row.Goals as goal

pub returns : goal.returns
returns c =
    let g = rows_graph c.args.self.now in
    lowest-below g.tasks _ (wrong g (rows_schedule c.args.self.now)) _ _ _ c.tasks.ensures.is c.find.ensures.ran (λ x b q k. search (rules, tests))
