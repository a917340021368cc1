use Rattle.std.proofs.Common.{◌≡◌, ℕ, ◌<◌, ◌≤◌, ◌≢◌, max, Bool, true, false, cond, List, [], ◌∷◌, length, set, sym, refl, ap, ◌∙◌, ⊎_elim, subst, arith, get_or-set_same, get_or-set_other}
use native.Mathlib.Decide.{ℕ_discrete}
use borrow.Author.Clash.{clash}
use Rattle.std.proofs.ByRecursion.{All-weaker, all_shuffled}
use Rattle.std.proofs.lemmas.List.Sorted.{Contains-permutation}
use Rattle.std.specs.List.{Contains, AllByRecursion}
use Rattle.model.specs.Graph.{Graph}
use Rattle.model.specs.Bounds.{Bound}
use Rattle.model.specs.Partial.{Partial}
use Rattle.model.specs.Nodes.{SearchNode, no_node, node_at}
use Rattle.model.proofs.Membership.{contains-first, contains-later, contains-cases}
use Rattle.bag.specs.Bag.{insert}
use Rattle.bag.proofs.Bags.{insert-adds, insert-in-order}
use Rattle.queue.specs.declared.entry.Entry.{Entry}
use Rattle.queue.specs.Entries.{entry_before}
use Rattle.queue.specs.EntryBags.{entries-ordered}
use Rattle.astar.specs.States.{SearchState, used, best_node, waiting_node, expanded_node, entry}
use Rattle.astar.specs.Expansion.{visited, taken, stored}
use Rattle.astar.specs.Advance.{next_node}
use Rattle.astar.specs.Invariant.{InUse, IsRight, Once, Listed}
use Rattle.astar.proofs.Visits.{bettered, visit-cases}

-- A step keeps the list in step with the nodes.

both : (P Q : Entry → Type 0) (xs : List Entry) → AllByRecursion P xs → AllByRecursion Q xs → AllByRecursion (λ x. P x × Q x) xs
both P Q [] p q = tt
both P Q (x ∷ xs) p q = ((p.0, q.0), both P Q xs p.1 q.1)

-- what holds of an entry and of those of a bag holds of all in the bag with it
pub insert-all : (P : Entry → Type 0) (e : Entry) (b : List Entry) → P e → AllByRecursion P b → AllByRecursion P (insert entry_before e b)
insert-all P e b p q = all_shuffled P (e ∷ b) (insert entry_before e b) (insert-adds entry_before e b) (p, q)

insert-once : (e : Entry) (b : List Entry) → AllByRecursion (λ (x : Entry). x.node ≢ e.node) b → Once b → Once (insert entry_before e b)
insert-once e [] h o = (tt, tt)
insert-once e (x ∷ xs) h o = by-test (insert-once e xs h.1 o.1) (entry_before x e) refl
  where
    by-test : Once (insert entry_before e xs) → (s : Bool) → entry_before x e ≡ s → Once (cond s (x ∷ insert entry_before e xs) (e ∷ x ∷ xs))
    by-test ih true p = (insert-all (λ (y : Entry). y.node ≢ x.node) e xs (λ z. h.0 (sym z)) o.0, ih)
    by-test ih false p = (h, o)

-- an entry that is right stays so where its node is left alone
right-onward : (w v : SearchState) (e : Entry) → used w ≤ used v → node_at v.nodes e.node ≡ node_at w.nodes e.node → IsRight w e → IsRight v e
right-onward w v e h n r = (
  (r.0.0, omega (arith, r.0.1)),
  ap (λ (x : SearchNode). x.waiting) n ∙ r.1,
  ap (λ (x : SearchNode). x.bound) n ∙ r.2,
)

module _ (w : SearchState) (L : Listed w) where
  listed-better : (g : Graph) (c : Partial) → Listed (bettered g w c)
  listed-better g c = record {
    right = All-weaker (IsRight w) (IsRight (bettered g w c)) (λ e r. right-onward w (bettered g w c) e (omega arith) (other e.node r.0.0) r) w.bag L.right;
    there = λ i u q. subst (λ (x : SearchNode). Contains w.bag (entry x.bound i)) (sym (other i u.0)) (L.there i u (sym (ap (λ (x : SearchNode). x.waiting) (other i u.0)) ∙ q));
    once = L.once;
    order = L.order;
  }
    where
      other : (j : ℕ) → 0 < j → node_at (set w.nodes 0 (best_node g c)) j ≡ node_at w.nodes j
      other j h = let ne : j ≢ 0 = omega arith in get_or-set_other w.nodes 0 j (best_node g c) no_node ne

  listed-stored : (c : Partial) (y : ℕ) → used w < length w.nodes → Listed (stored w c y)
  listed-stored c y room = record {
    right = insert-all (IsRight (stored w c y)) e w.bag
        ((omega arith, omega arith), ap (λ (x : SearchNode). x.waiting) same, ap (λ (x : SearchNode). x.bound) same)
        (All-weaker (IsRight w) (IsRight (stored w c y)) (λ x r. right-onward w (stored w c y) x (omega arith) (other x.node r.0.1) r) w.bag L.right);
    there = there;
    once = insert-once e w.bag (All-weaker (IsRight w) (λ (x : Entry). x.node ≢ used w) (λ x r. let l : x.node < used w = r.0.1 in omega arith) w.bag L.right) L.once;
    order = insert-in-order entry_before entries-ordered e w.bag L.order;
  }
    where
      e : Entry
      e = entry y (used w)

      same : node_at (set w.nodes (used w) (waiting_node c y)) (used w) ≡ waiting_node c y
      same = get_or-set_same w.nodes (used w) (waiting_node c y) no_node room

      other : (j : ℕ) → j < used w → node_at (set w.nodes (used w) (waiting_node c y)) j ≡ node_at w.nodes j
      other j h = let ne : j ≢ used w = omega arith in get_or-set_other w.nodes (used w) j (waiting_node c y) no_node ne

      holds : (x : Entry) → Contains (e ∷ w.bag) x → Contains (insert entry_before e w.bag) x
      holds x k = Contains-permutation (e ∷ w.bag) (insert entry_before e w.bag) x (insert-adds entry_before e w.bag) k

      there : (i : ℕ) → InUse (stored w c y) i → (node_at (stored w c y).nodes i).waiting ≡ true
          → Contains (stored w c y).bag (entry (node_at (stored w c y).nodes i).bound i)
      there i u q = elim (ℕ_discrete i (used w)) [
        | yes z ↦ subst (λ j. Contains (insert entry_before e w.bag) (entry (node_at (stored w c y).nodes j).bound j)) (sym z)
            (subst (λ (x : SearchNode). Contains (insert entry_before e w.bag) (entry x.bound (used w))) (sym same) (holds e (contains-first e w.bag)))
        | no ne ↦ let l : i < used w = omega (arith, u.1) in
            subst (λ (x : SearchNode). Contains (insert entry_before e w.bag) (entry x.bound i)) (sym (other i l))
            (holds _ (contains-later e w.bag _ (L.there i (u.0, l) (sym (ap (λ (x : SearchNode). x.waiting) (other i l)) ∙ q))))
      ]

  -- a visit keeps the list right
  pub listed-visit : (g : Graph) (b : Bound) (up : ℕ) (c : Partial) → used w < length w.nodes → Listed (visited g b up w c)
  listed-visit g b up c room = visit-cases g b up w c Listed
      (λ e l. listed-better g c)
      (λ e l. record { right = L.right; there = L.there; once = L.once; order = L.order })
      (λ l. record { right = L.right; there = L.there; once = L.once; order = L.order })
      (λ h. record { right = L.right; there = L.there; once = L.once; order = L.order })
      (λ e. listed-stored c (max up (b g c)) room)

-- so does taking the node whose entry comes first
pub listed-taken : (w : SearchState) → Listed w → 0 < length w.bag → used w ≤ length w.nodes → Listed (taken w (next_node w.bag))
listed-taken w L some room = go w.bag some L
  where
    go : (b : List Entry) → 0 < length b → Listed (record { tally = w.tally; nodes = w.nodes; bag = b })
        → Listed (taken (record { tally = w.tally; nodes = w.nodes; bag = b }) (next_node b))
    go [] h K = absurd (omega arith)
    go (e ∷ es) h K = record {
      right = All-weaker (λ (x : Entry). IsRight w x × (x.node ≢ e.node)) (IsRight v) (λ x r. right-onward w v x (omega arith) (other x.node r.1) r.0) es
          (both (IsRight w) (λ (x : Entry). x.node ≢ e.node) es K.right.1 K.once.0);
      there = λ i u q. elim (ℕ_discrete i e.node) [
        | yes z ↦ clash (node_at v.nodes i).waiting q (ap (λ j. (node_at v.nodes j).waiting) z ∙ ap (λ (x : SearchNode). x.waiting) same)
        | no ne ↦ subst (λ (x : SearchNode). Contains es (entry x.bound i)) (sym (other i ne))
            (⊎_elim (λ z. absurd (ne (sym (ap (λ (x : Entry). x.node) z)))) (λ c. c)
            (contains-cases e es _ (K.there i u (sym (ap (λ (x : SearchNode). x.waiting) (other i ne)) ∙ q))))
      ];
      once = K.once.1;
      order = K.order.1;
    }
      where
        v : SearchState
        v = taken (record { tally = w.tally; nodes = w.nodes; bag = e ∷ es }) e.node

        same : node_at v.nodes e.node ≡ expanded_node (node_at w.nodes e.node)
        same = get_or-set_same w.nodes e.node (expanded_node (node_at w.nodes e.node)) no_node (omega (arith, K.right.0.0.1, room))

        other : (j : ℕ) → j ≢ e.node → node_at v.nodes j ≡ node_at w.nodes j
        other j ne = get_or-set_other w.nodes e.node j (expanded_node (node_at w.nodes e.node)) no_node ne
