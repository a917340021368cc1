use Rattle.std.proofs.Common.{rules, tests}
use Rattle.model.specs.Partial.{lies_on}
use Rattle.model.proofs.Chains.{any-below}
use Rattle.loader.specs.Meaning.{the_graph}
use Rattle.partial.specs.Meaning.{the_partial}
use Rattle.children.proofs.tried.is_used.Goals as goal

pub returns : goal.returns
returns c =
    let g = the_graph c.args.g.now in
    any-below g.tasks _ (lies_on (the_partial c.args.q.now) c.args.m) _ _ _ c.tasks.ensures.is c.any.ensures.ran (λ x b q k. search (rules, tests))
