use Rattle.std.specs.Prelude.{ℕ, max, if◌then◌else◌, nat_lt, nat_le, slice_set}
use Rattle.std.specs.List.{fold}
use Rattle.model.specs.Graph.{Graph}
use Rattle.model.specs.Schedule.{makespan}
use Rattle.model.specs.Partial.{Partial, whole}
use Rattle.model.specs.Children.{choices, child}
use Rattle.model.specs.Bounds.{Bound}
use Rattle.model.specs.Nodes.{SearchNode, node_at, is_held}
use Rattle.model.specs.Soundness.{is_complete}
use Rattle.bag.specs.Bag.{insert, rest}
use Rattle.queue.specs.Entries.{entry_before}
use Rattle.astar.specs.States.{SearchState, used, best_length, best_node, waiting_node, expanded_node, entry, count_expanded, count_complete, count_pruned, count_duplicate, count_stored}

-- a complete child is counted, and it is the best schedule from then on if it is strictly shorter
abbrev pub completed : Graph → SearchState → Partial → SearchState
completed g w c = record {
  tally = count_complete w.tally;
  nodes =
      if nat_lt (makespan g (whole c)) (best_length w)
      then slice_set w.nodes 0 (best_node g c)
      else w.nodes;
  bag = w.bag;
}

-- a child is only counted: its bound is not below the best length, or a used node holds a duplicate
abbrev pub pruned : SearchState → SearchState
pruned w = record w { tally = count_pruned w.tally }

abbrev pub repeated : SearchState → SearchState
repeated w = record w { tally = count_duplicate w.tally }

-- a child with bound y fills the next unused node, waiting, and its entry enters the list
abbrev pub stored : SearchState → Partial → ℕ → SearchState
stored w c y = record {
  tally = count_stored w.tally;
  nodes = slice_set w.nodes (used w) (waiting_node c y);
  bag = insert entry_before (entry y (used w)) w.bag;
}

-- what becomes of a child with bound y that is not complete
abbrev pub kept_or_dropped : SearchState → Partial → ℕ → SearchState
kept_or_dropped w c y =
    if nat_le (best_length w) y
    then pruned w
    else if is_held w.nodes (used w) c then repeated w else stored w c y

-- what becomes of a child whose parent has bound up: its own bound is the greater of that and the rule's
unfoldable pub visited : Graph → Bound → ℕ → SearchState → Partial → SearchState
visited g b up w c =
    if is_complete g c then completed g w c else kept_or_dropped w c (max up (b g c))

-- node i is taken: it counts as expanded, and the first entry leaves the list
abbrev pub taken : SearchState → ℕ → SearchState
taken w i = record {
  tally = count_expanded w.tally;
  nodes = slice_set w.nodes i (expanded_node (node_at w.nodes i));
  bag = rest w.bag;
}

-- the children of node x by these choices, one after the other
abbrev pub visited_by : Graph → Bound → SearchNode → SearchState → ℕ × ℕ → SearchState
visited_by g b x v choice = visited g b x.bound v (child g x.partial choice)

-- node i is taken and its children are visited in order
unfoldable pub expanded : Graph → Bound → SearchState → ℕ → SearchState
expanded g b w i =
    fold (visited_by g b (node_at w.nodes i)) (taken w i) (choices g (node_at w.nodes i).partial)
