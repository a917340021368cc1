use Rattle.std.proofs.Common.{◌≡◌, ap, ◌∙◌, rules}
use Rattle.model.specs.Nodes.{SearchNode, node_at}
use Rattle.loader.specs.Meaning.{the_graph}
use Rattle.nodes.specs.Meaning.{the_nodes}
use Rattle.astar.specs.Advance.{next_node}
use Rattle.search.proofs.Taking.{taken_next, taken_fewer}
use Rattle.search.proofs.Keeping.{kept_take, kept_on}
use Rattle.search.proofs.Folding.{appendable-on}
use Rattle.search.proofs.expand.expand.Goals as goal

pub visit_all-requires-clause-appendable : goal.visit_all-requires-clause-appendable
visit_all-requires-clause-appendable g c =
    let next : c.in-Some.entry.node ≡ next_node (g.L.OpenList.bag c.args.list.now) = taken_next _ c.take.result c.in-Some.entry c.take.ensures.is (search rules) in
    appendable-on (the_graph c.args.g.now) _ _ _ _
    (ap (λ (x : SearchNode). x.partial) (c.node-parent.ensures ∙ ap (node_at (the_nodes c.args.table.now)) next))
    c.as_slice.ensures c.requires.appendable

pub returns-clause-kept : goal.returns-clause-kept
returns-clause-kept g c =
    kept_on g.L.OpenList.bag g.L.OpenList.kept _ _ _ _ _ _
    (kept_take g.L.OpenList.bag g.L.OpenList.kept _ _ _ c.take.ensures.kept c.take.ensures.after) c.visit_all.ensures.kept
    c.visit_all.ensures.grows (taken_fewer _ _ _ c.take.ensures.after)
