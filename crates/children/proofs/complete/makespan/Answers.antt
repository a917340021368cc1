use Rattle.std.proofs.Common.{ℕ, ◌+◌, ◌∙◌, rules, tests}
use Rattle.model.proofs.Chains.{top-below}
use Rattle.loader.specs.Meaning.{the_graph}
use Rattle.partial.specs.Meaning.{the_partial}
use Rattle.children.proofs.complete.makespan.Goals as goal

pub returns : goal.returns
returns c =
    let g = the_graph c.args.g.now in
    let s = the_partial c.args.q.now in
    c.unwrap_or.ensures ∙ top-below g.tasks _ (λ (t : ℕ). s.start t + g.work t) _ _ _ c.tasks.ensures.is c.max.ensures.ran c.map.ensures.source c.map.ensures.closure (λ x b q k. search (rules, tests))
