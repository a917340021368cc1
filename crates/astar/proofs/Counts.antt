use Rattle.std.proofs.Common.{◌≡◌, ℕ, ◌+◌, ◌<◌, ◌≤◌, max, List, [], ◌∷◌, length, arith, refl, length-set}
use Rattle.std.specs.List.{AllByRecursion}
use Rattle.model.specs.Graph.{Graph}
use Rattle.model.specs.Bounds.{Bound}
use Rattle.model.specs.Partial.{Partial}
use Rattle.model.specs.Nodes.{node_at}
use Rattle.bag.specs.Bag.{rest}
use Rattle.bag.proofs.Bags.{length-insert}
use Rattle.queue.specs.declared.entry.Entry.{Entry}
use Rattle.queue.specs.Entries.{entry_before}
use Rattle.astar.specs.States.{SearchState, used, best_node, waiting_node, entry}
use Rattle.astar.specs.Expansion.{visited, taken, expanded}
use Rattle.astar.specs.Invariant.{Counted}
use Rattle.astar.proofs.Visits.{visit-cases, expansion-visits}
use Rattle.astar.proofs.Listing.{insert-all}

-- A step keeps the counts right, and leaves as many nodes.

pub counted-taken : (w : SearchState) (i : ℕ) → Counted w → 0 < length w.bag → Counted (taken w i)
counted-taken w i C some = go w.bag C.listed some
  where
    go : (b : List Entry) → length b ≡ w.tally.waiting → 0 < length b → Counted (taken (record { tally = w.tally; nodes = w.nodes; bag = b }) i)
    go [] e h = absurd (omega arith)
    go (x ∷ xs) e h = record { made = C.made; waiting = omega (arith, C.waiting); listed = omega arith }

module _ (g : Graph) (b : Bound) (up : ℕ) (w : SearchState) (c : Partial) where
  pub counted-visit : Counted w → Counted (visited g b up w c)
  counted-visit C = visit-cases g b up w c Counted
      (λ e l. record { made = omega (arith, C.made); waiting = C.waiting; listed = C.listed })
      (λ e l. record { made = omega (arith, C.made); waiting = C.waiting; listed = C.listed })
      (λ l. record { made = omega (arith, C.made); waiting = C.waiting; listed = C.listed })
      (λ h. record { made = omega (arith, C.made); waiting = C.waiting; listed = C.listed })
      (λ e. record {
        made = omega (arith, C.made);
        waiting = omega (arith, C.waiting);
        listed = omega (arith, C.listed, length-insert entry_before (entry (max up (b g c)) (used w)) w.bag);
      })

  pub size-visit : length (visited g b up w c).nodes ≡ length w.nodes
  size-visit = visit-cases g b up w c (λ v. length v.nodes ≡ length w.nodes)
      (λ e l. length-set w.nodes 0 (best_node g c))
      (λ e l. refl)
      (λ l. refl)
      (λ h. refl)
      (λ e. length-set w.nodes (used w) (waiting_node c (max up (b g c))))

  pub used-visit : used (visited g b up w c) ≤ used w + 1
  used-visit = visit-cases g b up w c (λ v. used v ≤ used w + 1)
      (λ e l. omega arith)
      (λ e l. omega arith)
      (λ l. omega arith)
      (λ h. omega arith)
      (λ e. omega arith)

  -- what is at most a node's bound and every bound in the list is so after a child of it was visited
  pub low-visit : (y : ℕ) → y ≤ up → AllByRecursion (λ (e : Entry). y ≤ e.bound) w.bag → AllByRecursion (λ (e : Entry). y ≤ e.bound) (visited g b up w c).bag
  low-visit y h low = visit-cases g b up w c (λ v. AllByRecursion (λ (e : Entry). y ≤ e.bound) v.bag)
      (λ e l. low)
      (λ e l. low)
      (λ l. low)
      (λ h. low)
      (λ e. insert-all (λ (x : Entry). y ≤ x.bound) (entry (max up (b g c)) (used w)) w.bag (omega arith) low)

-- no node is lost, and the list holds no more than it held and what was stored
abbrev pub Grows : SearchState → SearchState → Type 0
Grows w v = (w.tally.stored ≤ v.tally.stored) × (length v.bag + w.tally.stored ≤ length w.bag + v.tally.stored)

pub visit-grows : (g : Graph) (b : Bound) (up : ℕ) (w : SearchState) (c : Partial) → Grows w (visited g b up w c)
visit-grows g b up w c = visit-cases g b up w c (Grows w)
    (λ e l. (omega arith, omega arith))
    (λ e l. (omega arith, omega arith))
    (λ l. (omega arith, omega arith))
    (λ h. (omega arith, omega arith))
    (λ e. (omega arith, omega (arith, length-insert entry_before (entry (max up (b g c)) (used w)) w.bag)))

pub grows-on : (w v u : SearchState) → Grows w v → Grows v u → Grows w u
grows-on w v u x y = (omega (arith, x.0, y.0), omega (arith, x.1, y.1))

pub expansion-grows : (g : Graph) (b : Bound) (w : SearchState) (i : ℕ) → Grows w (expanded g b w i)
expansion-grows g b w i = expansion-visits g b w i (Grows w)
    (λ v c e. grows-on w v (visited g b (node_at w.nodes i).bound v c) e (visit-grows g b (node_at w.nodes i).bound v c))
    (omega arith, taken-fewer w.bag)
  where
    taken-fewer : (b : List Entry) → length (rest b) + w.tally.stored ≤ length b + w.tally.stored
    taken-fewer [] = omega arith
    taken-fewer (x ∷ b) = omega arith
