use Rattle.std.specs.Prelude.{◌≡◌, ℕ, ◌+◌, ◌-◌, ◌<◌, ◌≤◌, ◌≢◌, min, max, Bool, true, false, if◌then◌else◌, List, [], ◌∷◌, length}
use Rattle.model.specs.Graph.{Graph}
use Rattle.model.specs.Schedule.{makespan}
use Rattle.model.specs.Partial.{Partial, Complete, Unfinished, whole}
use Rattle.model.specs.Children.{children}
use Rattle.model.specs.Bounds.{Bound}
use Rattle.model.specs.Nodes.{SearchNode, node_at, is_duplicate}
use Rattle.bag.specs.Bag.{insert, rest}
use Rattle.queue.specs.Entries.{entry_before}
use Rattle.astar.specs.declared.tally.Tally.{Tally}
use Rattle.astar.specs.States.{SearchState, used, best_length}
use Rattle.astar.specs.Expansion.{visited, expanded}
use Rattle.astar.specs.Invariant.{InUse, partial_at}

-- What becomes of a child, and of all children of a node, in words.

-- the four fates of a child
pub data Fate : Type 0 where
  complete : Fate
  pruned : Fate
  duplicate : Fate
  stored : Fate

-- a used node above 0 holds a duplicate
abbrev pub Held : SearchState → Partial → Type 0
Held w c = (j : ℕ) × InUse w j × (is_duplicate c (partial_at w j) ≡ true)

-- when a child with bound y comes to each: it places every task; else its bound is not below the best length of that
-- moment; else a used node holds a duplicate; else it is stored
abbrev pub ComesTo : Graph → ℕ → SearchState → Partial → Fate → Type 0
ComesTo g y w c complete = Complete g c
ComesTo g y w c pruned = Unfinished g c × (best_length w ≤ y)
ComesTo g y w c duplicate = Unfinished g c × (y < best_length w) × Held w c
ComesTo g y w c stored = Unfinished g c × (y < best_length w) × (Held w c → ⊥)

-- node i is x then, and every other is as it was
pub record Written (w : SearchState) (i : ℕ) (x : SearchNode) (v : SearchState) : Type 0 where
  pub node : node_at v.nodes i ≡ x
  pub others : (j : ℕ) → j ≢ i → node_at v.nodes j ≡ node_at w.nodes j
  pub size : length v.nodes ≡ length w.nodes

-- a complete child is counted; the best length is the lesser of its makespan and what it was, and node 0 holds the
-- schedule that is so long, the old one where both are
pub record Completes (g : Graph) (w : SearchState) (c : Partial) (v : SearchState) : Type 0 where
  pub tally : v.tally
      ≡ record w.tally { generated = w.tally.generated + 1; complete = w.tally.complete + 1 }
  pub lesser : best_length v ≡ min (best_length w) (makespan g (whole c))
  pub old : best_length w ≤ makespan g (whole c) → v.nodes ≡ w.nodes
  pub new : makespan g (whole c) < best_length w
      → Written w 0 (record { partial = c; bound = makespan g (whole c); waiting = false }) v
  pub list : v.bag ≡ w.bag

-- a child that is dropped is counted, and no more
pub record Drops (w : SearchState) (counts : Tally) (v : SearchState) : Type 0 where
  pub tally : v.tally ≡ counts
  pub nodes : v.nodes ≡ w.nodes
  pub list : v.bag ≡ w.bag

-- a child that is stored is counted; it fills the next unused node, waiting, with its bound, and its entry enters the list
pub record Stores (w : SearchState) (c : Partial) (y : ℕ) (v : SearchState) : Type 0 where
  pub tally : v.tally
      ≡ record w.tally {
        generated = w.tally.generated + 1;
        stored = w.tally.stored + 1;
        waiting = w.tally.waiting + 1;
      }
  pub node : Written w (used w) (record { partial = c; bound = y; waiting = true }) v
  pub list : v.bag ≡ insert entry_before (record { bound = y; node = used w }) w.bag

-- what each fate leaves of a state
abbrev pub Leaves : Graph → ℕ → SearchState → Partial → SearchState → Fate → Type 0
Leaves g y w c v complete = Completes g w c v
Leaves g y w c v pruned =
    Drops w (record w.tally { generated = w.tally.generated + 1; pruned = w.tally.pruned + 1 }) v
Leaves g y w c v duplicate =
    Drops w
    (record w.tally { generated = w.tally.generated + 1; duplicates = w.tally.duplicates + 1 }) v
Leaves g y w c v stored = Stores w c y v

-- where a node is unused: the bound of a child is the greater of its parent's, up, and the rule's; what it leaves is told
-- by its fate
abbrev pub ChildFates : Type 0
ChildFates = (g : Graph) (b : Bound) (up : ℕ) (w : SearchState) (c : Partial) (e : Fate)
    → used w < length w.nodes → ComesTo g (max up (b g c)) w c e
    → Leaves g (max up (b g c)) w c (visited g b up w c) e

-- from w to v by children of a node with bound up, one after the other, each by its fate
pub data Visits (g : Graph) (b : Bound) (up : ℕ) : SearchState → List Partial → List Fate → SearchState → Type 0 where
  none : {w : SearchState} → Visits g b up w [] [] w
  more : {w v u : SearchState} {c : Partial} {cs : List Partial} {e : Fate} {es : List Fate}
      → ComesTo g (max up (b g c)) w c e → Leaves g (max up (b g c)) w c v e
      → Visits g b up v cs es u → Visits g b up w (c ∷ cs) (e ∷ es) u

-- node i is taken: it counts as expanded and no longer waits, and the first entry leaves the list
pub record Taken (w : SearchState) (i : ℕ) (v : SearchState) : Type 0 where
  pub tally : v.tally
      ≡ record w.tally { expanded = w.tally.expanded + 1; waiting = w.tally.waiting - 1 }
  pub node : Written w i (record (node_at w.nodes i) { waiting = false }) v
  pub list : v.bag ≡ rest w.bag

-- how many of some fates are this one
abbrev pub same : Fate → Fate → Bool
same complete complete = true
same pruned pruned = true
same duplicate duplicate = true
same stored stored = true
same e f = false

abbrev pub count : Fate → List Fate → ℕ
count e [] = 0
count e (f ∷ es) = (if same e f then 1 else 0) + count e es

-- the counts once a node was taken and its children came to these fates
pub record Tallied (w : SearchState) (es : List Fate) (v : SearchState) : Type 0 where
  pub generated : v.tally.generated ≡ w.tally.generated + length es
  pub expanded : v.tally.expanded ≡ w.tally.expanded + 1
  pub waiting : v.tally.waiting ≡ (w.tally.waiting - 1) + count stored es
  pub stored : v.tally.stored ≡ w.tally.stored + count stored es
  pub duplicates : v.tally.duplicates ≡ w.tally.duplicates + count duplicate es
  pub pruned : v.tally.pruned ≡ w.tally.pruned + count pruned es
  pub complete : v.tally.complete ≡ w.tally.complete + count complete es

-- node i is taken, and then its children come in the order of the choices, each to its fate; each fate's count is raised
-- by the number of children that came to it
pub record ByChildren (g : Graph) (b : Bound) (w : SearchState) (i : ℕ) (v : SearchState) : Type 0 where
  pub start : SearchState
  pub taken : Taken w i start
  pub fates : List Fate
  pub each : Visits g b (node_at w.nodes i).bound start (children g (partial_at w i)) fates v
  pub as_many : length fates ≡ length (children g (partial_at w i))
  pub tallied : Tallied w fates v

-- so is a node expanded, where there is room for its children
abbrev pub ExpansionVisits : Type 0
ExpansionVisits = (g : Graph) (b : Bound) (w : SearchState) (i : ℕ)
    → i < length w.nodes → used w + length (children g (partial_at w i)) ≤ length w.nodes
    → ByChildren g b w i (expanded g b w i)
