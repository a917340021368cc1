use Rattle.std.specs.Prelude.{ℕ, ◌+◌, ◌-◌, true, false, List}
use Rattle.model.specs.Graph.{Graph}
use Rattle.model.specs.Schedule.{Schedule, makespan}
use Rattle.model.specs.Partial.{Partial, whole}
use Rattle.model.specs.Nodes.{SearchNode, node_at}
use Rattle.queue.specs.declared.entry.Entry.{Entry}
use Rattle.astar.specs.declared.tally.Tally.{Tally}

-- what a search works on: its counts, the nodes, and the entries that wait, in order
pub record SearchState : Type 0 where
  pub tally : Tally
  pub nodes : List SearchNode
  pub bag : List Entry

-- node 0 and node 1 are used from the start, and each stored child uses one more
abbrev pub used : SearchState → ℕ
used w = w.tally.stored + 2

-- node 0 holds the best schedule so far, and its makespan as bound
abbrev pub best_schedule : SearchState → Schedule
best_schedule w = whole (node_at w.nodes 0).partial

abbrev pub best_length : SearchState → ℕ
best_length w = (node_at w.nodes 0).bound

abbrev pub best_node : Graph → Partial → SearchNode
best_node g c = record { partial = c; bound = makespan g (whole c); waiting = false }

abbrev pub waiting_node : Partial → ℕ → SearchNode
waiting_node c y = record { partial = c; bound = y; waiting = true }

abbrev pub expanded_node : SearchNode → SearchNode
expanded_node x = record x { waiting = false }

abbrev pub entry : ℕ → ℕ → Entry
entry y i = record { bound = y; node = i }

-- the counts when a node is expanded, and when a child turns out to be complete, pruned, a duplicate or stored

abbrev pub count_expanded : Tally → Tally
count_expanded s = record s { expanded = s.expanded + 1; waiting = s.waiting - 1 }

abbrev pub count_complete : Tally → Tally
count_complete s = record s { generated = s.generated + 1; complete = s.complete + 1 }

abbrev pub count_pruned : Tally → Tally
count_pruned s = record s { generated = s.generated + 1; pruned = s.pruned + 1 }

abbrev pub count_duplicate : Tally → Tally
count_duplicate s = record s { generated = s.generated + 1; duplicates = s.duplicates + 1 }

abbrev pub count_stored : Tally → Tally
count_stored s = record s {
  generated = s.generated + 1;
  stored = s.stored + 1;
  waiting = s.waiting + 1;
}
