use Rattle.std.specs.Prelude.{ℕ, zero, suc, ◌-◌, Bool, true, if◌then◌else◌, not, ◌&&◌, ◌==◌, nat_lt, nat_le, List, [], ◌∷◌, length, Some, None, Option}
use Rattle.model.specs.Graph.{Graph}
use Rattle.model.specs.Children.{choices}
use Rattle.model.specs.Bounds.{Bound}
use Rattle.model.specs.Nodes.{SearchNode, node_at}
use Rattle.model.specs.Soundness.{is_orderly, is_complete}
use Rattle.queue.specs.declared.entry.Entry.{Entry}
use Rattle.astar.specs.declared.sizes.Sizes.{Sizes}
use Rattle.astar.specs.declared.outcome.Outcome.{Outcome}
use Rattle.astar.specs.declared.outcome.Outcome.TheVariants.{Strange, Met, Paused, Full}
use Rattle.astar.specs.States.{SearchState, used, best_length}
use Rattle.astar.specs.Expansion.{expanded}

-- the memory is this search's: counts of tasks, machines and nodes are those at opening, as many entries
-- wait as were counted, and the list can hold an entry for each node
abbrev pub is_own : Graph → Sizes → SearchState → ℕ → Bool
is_own g z w limit =
    g.tasks == z.tasks && (g.machines == z.machines && (length w.nodes == z.nodes
    && (length w.bag == w.tally.waiting && nat_le (length w.nodes) limit)))

-- a node that can be expanded: it waits with this bound, and its partial schedule lacks a task and is in order
abbrev pub is_ripe : Graph → SearchNode → ℕ → Bool
is_ripe g x y = x.waiting && (x.bound == y && (not (is_complete g x.partial) && is_orderly g x.partial))

-- an entry is sound when its node is a used one above 0 that can be expanded
abbrev pub is_sound : Graph → SearchState → Entry → Bool
is_sound g w e = nat_lt 0 e.node && (nat_lt e.node (used w) && is_ripe g (node_at w.nodes e.node) e.bound)

-- fewer nodes are unused than the node's partial schedule has children
abbrev pub is_full : Graph → SearchState → ℕ → Bool
is_full g w i = nat_lt (length w.nodes - used w) (length (choices g (node_at w.nodes i).partial))

-- the best schedule is as long as the least bound of the list, or the list is empty
abbrev pub is_met : SearchState → List Entry → Bool
is_met w [] = true
is_met w (e ∷ es) = nat_le (best_length w) e.bound

-- the first two tests: foreign memory, and whether the search is over
abbrev pub early_word : Graph → Sizes → SearchState → ℕ → Option Outcome
early_word g z w limit =
    if is_own g z w limit then (if is_met w w.bag then Some Met else None) else Some Strange

-- the last two tests: an unsound node, and whether there is room for the children
abbrev pub late_word : Graph → SearchState → Entry → Option Outcome
late_word g w e =
    if is_sound g w e then (if is_full g w e.node then Some Full else None) else Some Strange

-- the tests of a turn but for the budget, in order
abbrev pub first_word : Option Outcome → Option Outcome → Option Outcome
first_word (Some o) later = Some o
first_word None later = later

abbrev pub entry_word : Graph → SearchState → List Entry → Option Outcome
entry_word g w [] = None
entry_word g w (e ∷ es) = late_word g w e

abbrev pub turn_word : Graph → Sizes → SearchState → ℕ → Option Outcome
turn_word g z w limit = first_word (early_word g z w limit) (entry_word g w w.bag)

-- the node of the entry that comes first
abbrev pub next_node : List Entry → ℕ
next_node [] = 0
next_node (e ∷ es) = e.node

-- where the budget is spent the first two tests are made once more
abbrev pub last_word : Option Outcome → Outcome
last_word None = Paused
last_word (Some o) = o

-- a word ends the call, and without one the search goes on
abbrev pub ended_or : Option Outcome → SearchState → SearchState × Outcome → SearchState × Outcome
ended_or (Some o) w later = (w, o)
ended_or None w later = later

-- advance with a budget: turn by turn, each the expansion of the node whose entry comes first
unfoldable pub advanced : Graph → Bound → Sizes → ℕ → ℕ → SearchState → SearchState × Outcome
advanced g b z limit zero w = (w, last_word (early_word g z w limit))
advanced g b z limit (suc k) w =
    ended_or (turn_word g z w limit) w
    (advanced g b z limit k (expanded g b w (next_node w.bag)))
