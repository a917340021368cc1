use Rattle.std.proofs.Common.{rules, tests}
use Rattle.schedule.specs.Check.{collide}
use Rattle.schedule.specs.TaskRows.{rows_graph, rows_schedule}
use Rattle.model.proofs.Chains.{any-below}
use Rattle.schedule.proofs.check.TaskRows.does_overlap.Goals as goal

pub returns : goal.returns
returns c =
    let g = rows_graph c.args.self.now in
    any-below g.tasks _ (collide g (rows_schedule c.args.self.now) c.args.t) _ _ _ c.tasks.ensures.is c.any.ensures.ran (λ x b q k. search (rules, tests))
