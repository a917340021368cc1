use Rattle.std.proofs.Common.{◌≡◌, ℕ, ◌<◌, List, length, map, get_or, sym, ap, ◌∙◌, arith}
use Rattle.std.proofs.lemmas.List.{get_or-map, length-map}
use Rattle.model.specs.Nodes.{no_node, node_at}
use Rattle.nodes.specs.declared.node.Node.{Node}
use Rattle.nodes.specs.View.{the_node}

-- the node read at i
pub node_read : (nodes : List Node) (i : ℕ) (x : Node) → i < length (map the_node nodes) → x ≡ get_or nodes i x → node_at (map the_node nodes) i ≡ the_node x
node_read nodes i x h e = get_or-map the_node nodes i x no_node (omega (arith, length-map nodes the_node)) ∙ ap the_node (sym e)
