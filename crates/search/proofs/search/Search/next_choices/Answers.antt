use Rattle.std.proofs.Common.{rules, subst}
use Rattle.model.specs.Nodes.{SearchNode}
use Rattle.model.specs.Soundness.{Orderly}
use Rattle.loader.specs.Meaning.{the_graph}
use Rattle.partial.specs.Meaning.{the_partial, Appendable}
use Rattle.search.proofs.search.Search.next_choices.Goals as goal

pub returns-clause-appendable : goal.returns-clause-appendable
returns-clause-appendable c t m k =
    let orderly : Orderly (the_graph c.args.g.now) (the_partial c.node-node.result.partial) = search rules in
    subst (λ (x : SearchNode). Appendable (the_graph c.args.g.now) x.partial t m) c.node-node.ensures (c.of-choices.ensures.appendable t m orderly k)
