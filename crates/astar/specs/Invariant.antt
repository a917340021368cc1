use Rattle.std.specs.Prelude.{◌≡◌, ℕ, ◌+◌, ◌<◌, ◌≤◌, ◌≢◌, ◌⊎◌, true, false, List, [], ◌∷◌, length}
use Rattle.std.specs.List.{Contains, AllByRecursion}
use Rattle.model.specs.Graph.{Graph}
use Rattle.model.specs.Schedule.{Schedule, makespan}
use Rattle.model.specs.Partial.{Partial, Complete, Unfinished, nothing, whole}
use Rattle.model.specs.Reachable.{Reachable, Empty}
use Rattle.model.specs.Completion.{Completion}
use Rattle.model.specs.Children.{choices, child}
use Rattle.model.specs.Bounds.{Bound}
use Rattle.model.specs.Nodes.{node_at, is_duplicate}
use Rattle.bag.specs.Bag.{InOrder}
use Rattle.queue.specs.declared.entry.Entry.{Entry}
use Rattle.queue.specs.Entries.{entry_before}
use Rattle.astar.specs.States.{SearchState, used, best_length, entry}

-- What holds between any two calls of a search, and what its proof rests on.

-- a used node above 0
abbrev pub InUse : SearchState → ℕ → Type 0
InUse w i = (0 < i) × (i < used w)

abbrev pub partial_at : SearchState → ℕ → Partial
partial_at w i = (node_at w.nodes i).partial

-- what is known of a child once it was visited: it is complete and not shorter than the best schedule, or no
-- completion of it is, or a used node holds a duplicate
abbrev pub Visited : Graph → SearchState → Partial → Type 0
Visited g w c =
    (Complete g c × (best_length w ≤ makespan g (whole c)))
    ⊎ (((p : Schedule) → Completion g c p → best_length w ≤ makespan g p)
    ⊎ ((j : ℕ) × InUse w j × (is_duplicate c (partial_at w j) ≡ true)))

-- the nodes: each used one above 0 is reachable and lacks a task, and its bound is one; the children of an
-- expanded one were visited, as far as Due tells; some node holds the empty partial schedule; and node 0 holds
-- a complete one with its makespan
pub record Grown (g : Graph) (Due : ℕ → ℕ × ℕ → Type 0) (w : SearchState) : Type 0 where
  pub reachable : (i : ℕ) → InUse w i → Reachable g (partial_at w i)
  pub unfinished : (i : ℕ) → InUse w i → Unfinished g (partial_at w i)
  pub tasks : (i t : ℕ) → InUse w i → g.tasks ≤ t → (partial_at w i).placed t ≡ false
  pub under : (i : ℕ) → InUse w i → (p : Schedule) → Completion g (partial_at w i) p
      → (node_at w.nodes i).bound ≤ makespan g p
  pub visited : (i : ℕ) (x : ℕ × ℕ) → InUse w i → (node_at w.nodes i).waiting ≡ false
      → Contains (choices g (partial_at w i)) x → Due i x → Visited g w (child g (partial_at w i) x)
  pub root : (j : ℕ) × InUse w j × Empty g (partial_at w j)
  pub best : Reachable g (partial_at w 0) × Complete g (partial_at w 0)
      × (best_length w ≡ makespan g (whole (partial_at w 0)))
  pub room : used w ≤ length w.nodes

-- an entry is right when its node is a used one above 0 that waits with the entry's bound
abbrev pub IsRight : SearchState → Entry → Type 0
IsRight w e =
    InUse w e.node × ((node_at w.nodes e.node).waiting ≡ true)
    × ((node_at w.nodes e.node).bound ≡ e.bound)

-- no node has two entries
abbrev pub Once : List Entry → Type 0
Once [] = Unit {0}
Once (e ∷ es) = AllByRecursion (λ (x : Entry). x.node ≢ e.node) es × Once es

-- the list: it holds an entry for each waiting node, with its bound, and no other, in order and each once
pub record Listed (w : SearchState) : Type 0 where
  pub right : AllByRecursion (IsRight w) w.bag
  pub there : (i : ℕ) → InUse w i → (node_at w.nodes i).waiting ≡ true
      → Contains w.bag (entry (node_at w.nodes i).bound i)
  pub once : Once w.bag
  pub order : InOrder entry_before w.bag

-- the counts: each child came to one of four fates, and what was stored and not expanded waits in the list
pub record Counted (w : SearchState) : Type 0 where
  pub made : w.tally.stored + w.tally.duplicates + w.tally.pruned + w.tally.complete
      ≡ w.tally.generated
  pub waiting : w.tally.waiting + w.tally.expanded ≡ w.tally.stored + 1
  pub listed : length w.bag ≡ w.tally.waiting

-- no two used nodes above 0 are duplicates, and node 0, which holds the best schedule, does not wait
pub record Distinct (w : SearchState) : Type 0 where
  pub distinct : (i j : ℕ) → InUse w i → InUse w j → i ≢ j
      → is_duplicate (partial_at w i) (partial_at w j) ≡ true → ⊥
  pub zeroth : (node_at w.nodes 0).waiting ≡ false

-- node 1 holds the empty partial schedule, with the rule's number for it as its bound
pub record Rooted (g : Graph) (b : Bound) (w : SearchState) : Type 0 where
  pub partial : partial_at w 1 ≡ nothing
  pub bound : (node_at w.nodes 1).bound ≡ b g nothing

-- every child is due
abbrev pub All : ℕ → ℕ × ℕ → Type 0
All i x = Unit {0}

pub record Invariant (g : Graph) (w : SearchState) : Type 0 where
  pub grown : Grown g All w
  pub listed : Listed w
  pub counted : Counted w
  pub apart : Distinct w
