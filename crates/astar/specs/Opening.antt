use Rattle.std.specs.Prelude.{List, [], ◌∷◌, length, slice_set}
use Rattle.model.specs.Graph.{Graph}
use Rattle.model.specs.Partial.{Partial, nothing}
use Rattle.model.specs.Bounds.{Bound}
use Rattle.model.specs.Nodes.{SearchNode}
use Rattle.astar.specs.declared.tally.Tally.{Tally}
use Rattle.astar.specs.declared.sizes.Sizes.{Sizes}
use Rattle.astar.specs.States.{SearchState, best_node, waiting_node, entry}

-- nothing done, one node waits
abbrev pub first_tally : Tally
first_tally = record {
  expanded = 0;
  generated = 0;
  stored = 0;
  duplicates = 0;
  pruned = 0;
  complete = 0;
  waiting = 1;
}

-- how many tasks, machines and nodes there are
abbrev pub sizes_of : Graph → List SearchNode → Sizes
sizes_of g ns = record { tasks = g.tasks; machines = g.machines; nodes = length ns }

-- a search that is opened with a first schedule: it fills node 0, the empty partial schedule waits in node 1 with its
-- bound, its entry is the only one of the list, and every other node is as it was
abbrev pub opened : Graph → Bound → Partial → List SearchNode → SearchState
opened g b s ns = record {
  tally = first_tally;
  nodes = slice_set (slice_set ns 0 (best_node g s)) 1 (waiting_node nothing (b g nothing));
  bag = entry (b g nothing) 1 ∷ [];
}
