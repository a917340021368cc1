use Rattle.std.specs.Prelude.{ℕ, false, List, map, slice_set}
use Rattle.model.specs.Nodes.{SearchNode, node_at}
use Rattle.nodes.specs.declared.table.Table.{Table}
use Rattle.nodes.specs.View.{the_node}

-- the nodes of a table, in order
abbrev pub the_nodes : Table → List SearchNode
the_nodes t = map the_node t.nodes.items

-- the nodes, but node i does not wait; past the last, they are the same
abbrev pub set_expanded : List SearchNode → ℕ → List SearchNode
set_expanded ns i = slice_set ns i (record (node_at ns i) { waiting = false })
