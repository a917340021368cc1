use Rattle.std.specs.Prelude.{◌≡◌, ℕ, zero, suc, ◌+◌, ◌-◌, ◌<◌, ◌≤◌, ◌≢◌, ◌⊎◌, if◌then◌else◌, ◌==◌, Some, length}
use Rattle.std.specs.List.{Contains}
use Rattle.model.specs.Graph.{Graph}
use Rattle.model.specs.Partial.{Unfinished}
use Rattle.model.specs.Children.{children}
use Rattle.model.specs.Bounds.{Bound}
use Rattle.model.specs.Soundness.{Orderly}
use Rattle.bag.specs.Bag.{first}
use Rattle.queue.specs.declared.entry.Entry.{Entry}
use Rattle.astar.specs.declared.sizes.Sizes.{Sizes}
use Rattle.astar.specs.declared.outcome.Outcome.{Outcome}
use Rattle.astar.specs.declared.outcome.Outcome.TheVariants.{Strange, Met, Paused, Full}
use Rattle.astar.specs.States.{SearchState, used, best_length}
use Rattle.astar.specs.Expansion.{expanded}
use Rattle.astar.specs.Advance.{next_node}
use Rattle.astar.specs.Invariant.{IsRight, partial_at}

-- How a call of advance ends: by the first of five tests that applies, at the first state to which one does.

-- 1: the memory is not this search's: tasks, machines or nodes are not as many as at opening, the entries of the list
-- are not as many as were counted, or it cannot hold one for each node
abbrev pub Foreign : Graph → Sizes → ℕ → SearchState → Type 0
Foreign g z limit v =
    (g.tasks ≢ z.tasks) ⊎ ((g.machines ≢ z.machines) ⊎ ((length v.nodes ≢ z.nodes)
    ⊎ ((length v.bag ≢ v.tally.waiting) ⊎ (limit < length v.nodes))))

-- 2: no entry's bound is below the best length, as where there is none
abbrev pub NoneBelow : SearchState → Type 0
NoneBelow v = (e : Entry) → Contains v.bag e → best_length v ≤ e.bound

-- 3: the nodes expanded are as many as the budget allows
abbrev pub Spent : ℕ → SearchState → Type 0
Spent allowed v = v.tally.expanded ≡ allowed

-- an entry is sound when its node is a used one above 0 that waits with the entry's bound, and its partial schedule
-- lacks a task and is in order
pub record Sound (g : Graph) (v : SearchState) (e : Entry) : Type 0 where
  pub right : IsRight v e
  pub unfinished : Unfinished g (partial_at v e.node)
  pub orderly : Orderly g (partial_at v e.node)

-- 4: the entry that comes first is not sound
abbrev pub Unsound : Graph → SearchState → Type 0
Unsound g v = (e : Entry) × (first v.bag ≡ Some e) × (Sound g v e → ⊥)

-- 5: fewer nodes are unused than the partial schedule of its node has children
abbrev pub Cramped : Graph → SearchState → Type 0
Cramped g v = (e : Entry) × (first v.bag ≡ Some e)
    × (length v.nodes - used v < length (children g (partial_at v e.node)))

-- the tests by their numbers
pub data Applies (g : Graph) (z : Sizes) (limit allowed : ℕ) (v : SearchState) : ℕ → Type 0 where
  foreign : Foreign g z limit v → Applies g z limit allowed v 1
  none_below : NoneBelow v → Applies g z limit allowed v 2
  spent : Spent allowed v → Applies g z limit allowed v 3
  unsound : Unsound g v → Applies g z limit allowed v 4
  cramped : Cramped g v → Applies g z limit allowed v 5

-- the outcome by the number of its test: of the first and the fourth it is Strange
abbrev pub outcome_of : ℕ → Outcome
outcome_of n =
    if n == 2 then Met else if n == 3 then Paused else if n == 5 then Full else Strange

-- a call with budget k on state w that leaves v and answers o: o is the outcome of a test that applies to v, and none
-- with a lower number does
abbrev pub EndsBy : Graph → Sizes → ℕ → ℕ → SearchState → SearchState × Outcome → Type 0
EndsBy g z limit k w r = (n : ℕ) × Applies g z limit (w.tally.expanded + k) r.0 n
    × ((m : ℕ) → m < n → Applies g z limit (w.tally.expanded + k) r.0 m → ⊥)
    × (r.1 ≡ outcome_of n)

-- the state j expansions later, each of the node whose entry comes first
unfoldable pub after : Graph → Bound → ℕ → SearchState → SearchState
after g b zero w = w
after g b (suc j) w = after g b j (expanded g b w (next_node w.bag))

-- and it got from w to v by such expansions, each of a state to which no test applies
abbrev pub GoesOnTo : Graph → Bound → Sizes → ℕ → ℕ → SearchState → SearchState → Type 0
GoesOnTo g b z limit k w v = (j : ℕ) × (v ≡ after g b j w)
    × ((i n : ℕ) → i < j → Applies g z limit (w.tally.expanded + k) (after g b i w) n → ⊥)
