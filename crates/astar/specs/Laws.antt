use Rattle.std.specs.Prelude.{◌≡◌, ℕ, ◌+◌, ◌<◌, ◌≤◌, ◌≢◌, ◌⊎◌, min, true, false, List, [], ◌∷◌, length}
use Rattle.std.specs.List.{Contains}
use Rattle.model.specs.Graph.{Graph, Lawful}
use Rattle.model.specs.Schedule.{Schedule, Feasible, makespan}
use Rattle.model.specs.Partial.{Partial, Complete, whole, nothing}
use Rattle.model.specs.Reachable.{Reachable}
use Rattle.model.specs.Children.{choices}
use Rattle.model.specs.Bounds.{Bound, IsLowerBound}
use Rattle.model.specs.Nodes.{SearchNode, node_at}
use Rattle.bag.specs.Bag.{InOrder}
use Rattle.queue.specs.declared.entry.Entry.{Entry}
use Rattle.queue.specs.Entries.{entry_before}
use Rattle.astar.specs.States.{SearchState, used, best_length, best_schedule}
use Rattle.astar.specs.Expansion.{expanded}
use Rattle.astar.specs.Opening.{sizes_of, opened}
use Rattle.astar.specs.declared.sizes.Sizes.{Sizes}
use Rattle.astar.specs.declared.outcome.Outcome.TheVariants.{Strange, Met}
use Rattle.astar.specs.Advance.{is_own, next_node, advanced}
use Rattle.astar.specs.Endings.{EndsBy, GoesOnTo}
use Rattle.astar.specs.Invariant.{Invariant, partial_at}

-- the floor of a search: the lesser of the best length and the least bound in the list, if it has one
abbrev pub least_bound : ℕ → List Entry → ℕ
least_bound y [] = y
least_bound y (e ∷ es) = min y e.bound

abbrev pub floor : SearchState → ℕ
floor w = least_bound (best_length w) w.bag

-- between calls no feasible schedule is shorter than the floor
abbrev pub FloorHolds : Type 0
FloorHolds = (g : Graph) (w : SearchState) → Lawful g → Invariant g w
    → (p : Schedule) → Feasible g p → floor w ≤ makespan g p

-- and the best schedule is feasible, and as long as the search says
abbrev pub BestIsFeasible : Type 0
BestIsFeasible = (g : Graph) (w : SearchState) → Lawful g → Invariant g w
    → Feasible g (best_schedule w) × (best_length w ≡ makespan g (best_schedule w))

-- where there is room for the children, the first entry's node can be expanded: the invariant stands, the floor
-- does not fall and the best length does not rise
abbrev pub ExpansionKeeps : Type 0
ExpansionKeeps = (g : Graph) (b : Bound) (w : SearchState) → Lawful g → IsLowerBound b
    → Invariant g w → 0 < length w.bag
    → used w + length (choices g (partial_at w (next_node w.bag))) ≤ length w.nodes
    → Invariant g (expanded g b w (next_node w.bag))
    × (floor w ≤ floor (expanded g b w (next_node w.bag)))
    × (best_length (expanded g b w (next_node w.bag)) ≤ best_length w)

-- what holds between two calls: the memory is this search's, and the invariant stands
pub record Standing (g : Graph) (z : Sizes) (limit : ℕ) (w : SearchState) : Type 0 where
  pub own : is_own g z w limit ≡ true
  pub invariant : Invariant g w

-- whatever the budget, a call of advance keeps this; the floor does not fall, the best length does not rise, and
-- it is never Strange
abbrev pub AdvanceKeeps : Type 0
AdvanceKeeps = (g : Graph) (b : Bound) (z : Sizes) (limit k : ℕ) (w : SearchState) → Lawful g
    → IsLowerBound b → Standing g z limit w
    → Standing g z limit (advanced g b z limit k w).0
    × (floor w ≤ floor (advanced g b z limit k w).0)
    × (best_length (advanced g b z limit k w).0 ≤ best_length w)
    × ((advanced g b z limit k w).1 ≢ Strange)

-- whatever the state and the budget, a call of advance goes on to the first state to which one of five tests applies,
-- and ends by the first that does; of the list only this is asked, that it is told in order
abbrev pub AdvanceEnds : Type 0
AdvanceEnds = (g : Graph) (b : Bound) (z : Sizes) (limit k : ℕ) (w : SearchState) → Lawful g
    → InOrder entry_before w.bag
    → EndsBy g z limit k w (advanced g b z limit k w)
    × GoesOnTo g b z limit k w (advanced g b z limit k w).0

-- a search that is opened with a complete schedule, in a table of at least two nodes and with a list that can hold an
-- entry for each, stands
abbrev pub OpeningStands : Type 0
OpeningStands = (g : Graph) (b : Bound) (s : Partial) (ns : List SearchNode) (limit : ℕ) → Lawful g
    → IsLowerBound b → Reachable g s → Complete g s → 2 ≤ length ns → length ns ≤ limit
    → Standing g (sizes_of g ns) limit (opened g b s ns)

-- y is above neither the best length nor an entry's bound, and it is one of these
pub record LeastOf (w : SearchState) (y : ℕ) : Type 0 where
  pub best : y ≤ best_length w
  pub listed : (e : Entry) → Contains w.bag e → y ≤ e.bound
  pub one : (y ≡ best_length w) ⊎ ((e : Entry) × Contains w.bag e × (y ≡ e.bound))

-- so is the floor
abbrev pub FloorIsLeast : Type 0
FloorIsLeast = (w : SearchState) → InOrder entry_before w.bag → LeastOf w (floor w)

-- a call of advance that answers Met leaves the best length as the floor
abbrev pub AdvanceMeets : Type 0
AdvanceMeets = (g : Graph) (b : Bound) (z : Sizes) (limit k : ℕ) (w : SearchState) → Lawful g
    → InOrder entry_before w.bag → (advanced g b z limit k w).1 ≡ Met
    → floor (advanced g b z limit k w).0 ≡ best_length (advanced g b z limit k w).0

-- opening with a schedule: it fills node 0 with its makespan, and node 0 does not wait; the empty partial schedule waits
-- in node 1 with the rule's number for it; each other node is as it was; the one entry is that of node 1; and nothing is
-- counted but the node that waits
pub record Opens (g : Graph) (b : Bound) (s : Partial) (ns : List SearchNode) (w : SearchState) : Type 0 where
  pub best : node_at w.nodes 0 ≡ record { partial = s; bound = makespan g (whole s); waiting = false }
  pub root : node_at w.nodes 1 ≡ record { partial = nothing; bound = b g nothing; waiting = true }
  pub others : (j : ℕ) → 1 < j → node_at w.nodes j ≡ node_at ns j
  pub size : length w.nodes ≡ length ns
  pub list : w.bag ≡ record { bound = b g nothing; node = 1 } ∷ []
  pub tally : w.tally ≡ record { expanded = 0; generated = 0; stored = 0; duplicates = 0; pruned = 0; complete = 0; waiting = 1 }

abbrev pub OpeningFills : Type 0
OpeningFills = (g : Graph) (b : Bound) (s : Partial) (ns : List SearchNode) → 2 ≤ length ns
    → Opens g b s ns (opened g b s ns)
