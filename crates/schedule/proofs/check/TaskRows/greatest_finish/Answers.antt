use Rattle.std.proofs.Common.{◌+◌, ◌∙◌, rules, tests}
use Rattle.schedule.specs.TaskRows.{rows_graph, rows_schedule}
use Rattle.model.proofs.Chains.{top-below}
use Rattle.schedule.proofs.check.TaskRows.greatest_finish.Goals as goal

pub returns : goal.returns
returns c =
    let g = rows_graph c.args.self.now in
    let p = rows_schedule c.args.self.now in
    c.unwrap_or.ensures ∙ top-below g.tasks _ (λ t. p.start t + g.work t) _ _ _ c.tasks.ensures.is c.max.ensures.ran c.map.ensures.source c.map.ensures.closure (λ x b q k. search (rules, tests))
