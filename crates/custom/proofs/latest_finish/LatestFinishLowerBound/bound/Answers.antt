use Rattle.std.proofs.Common.{◌∙◌, rules, tests}
use Rattle.model.proofs.Chains.{top-below}
use Rattle.loader.specs.Meaning.{the_graph}
use Rattle.partial.specs.Meaning.{the_partial}
use Rattle.custom.specs.Finishes.{finish_at}
use Rattle.custom.proofs.latest_finish.LatestFinishLowerBound.bound.Goals as goal

pub returns : goal.returns
returns c =
    let g = the_graph c.args.g.now in
    c.unwrap_or.ensures ∙ top-below g.tasks _ (finish_at g (the_partial c.args.q.now)) _ _ _ c.tasks.ensures.is c.max.ensures.ran c.map.ensures.source c.map.ensures.closure (λ x b q k. search (rules, tests))
