use Rattle.std.specs.Prelude.{Bool, true, false}
use Rattle.model.specs.Nodes.{SearchNode}
use Rattle.partial.specs.Meaning.{the_partial}
use Rattle.nodes.specs.declared.node.Node.{Node}
use Rattle.nodes.specs.declared.node.Status.{Status}
use Rattle.nodes.specs.declared.node.Status.TheVariants.{Waiting, Expanded}

-- whether a node of this status waits to be expanded
abbrev pub waits : Status → Bool
waits Waiting = true
waits Expanded = false

-- the node that a value means
abbrev pub the_node : Node → SearchNode
the_node n = record { partial = the_partial n.partial; bound = n.bound; waiting = waits n.status }
