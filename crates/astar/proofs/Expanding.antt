use Rattle.std.proofs.Common.{◌≡◌, ℕ, ◌+◌, ◌<◌, ◌≤◌, ◌≢◌, ◌⊎◌, false, List, [], ◌∷◌, length, sym, refl, ap, ◌∙◌, inl, inr, ⊎_elim, subst, arith, length-set, get_or-set_same, get_or-set_other}
use Rattle.std.specs.List.{Contains, AllByRecursion, fold}
use native.Mathlib.Decide.{ℕ_discrete}
use Rattle.model.specs.Graph.{Graph, Lawful}
use Rattle.model.specs.Reachable.{Reachable}
use Rattle.model.specs.Children.{choices, child}
use Rattle.model.specs.Bounds.{Bound, IsLowerBound}
use Rattle.model.specs.Nodes.{SearchNode, no_node, node_at}
use Rattle.model.proofs.Membership.{contains-first, contains-later, contains-cases}
use Rattle.std.proofs.ByRecursion.{All-weaker}
use Rattle.bag.specs.Bag.{rest, InOrder}
use Rattle.bag.proofs.Pairs.{not-below}
use Rattle.queue.specs.Entries.{entry_before}
use Rattle.queue.specs.declared.entry.Entry.{Entry}
use Rattle.astar.specs.States.{SearchState, used, best_length, best_schedule, expanded_node}
use Rattle.astar.specs.Expansion.{visited_by, taken, expanded}
use Rattle.astar.specs.Advance.{next_node}
use Rattle.astar.specs.Invariant.{InUse, partial_at, Visited, Grown, Listed, Counted, Distinct, All, Invariant, IsRight}
use Rattle.astar.specs.Laws.{least_bound, floor, ExpansionKeeps}
use Rattle.astar.proofs.Children.{chosen-reachable, chosen-tasks, chosen-under}
use Rattle.astar.proofs.Visits.{expansion-visits}
use Rattle.astar.proofs.Growth.{BestNode, Onward, grown-onward}
use Rattle.astar.proofs.Visiting.{Step, visit-step}
use Rattle.astar.proofs.Listing.{listed-taken, listed-visit}
use Rattle.astar.proofs.Counts.{counted-taken, counted-visit, size-visit, used-visit, low-visit}
use Rattle.astar.proofs.Distinct.{apart-on, apart-visit}
use Rattle.astar.proofs.Floor.{floor-holds, best-feasible}

-- A node is expanded: child by child.

-- of node i the choices in `done` are due, of the others all
abbrev pub DueOf : ℕ → List (ℕ × ℕ) → ℕ → ℕ × ℕ → Type 0
DueOf i done j x = j ≡ i → Contains done x

-- what holds while node i of w is expanded: y is at most its bound and those in the list
pub record Going (g : Graph) (w : SearchState) (i y : ℕ) (done : List (ℕ × ℕ)) (v : SearchState) : Type 0 where
  pub grown : Grown g (DueOf i done) v
  pub listed : Listed v
  pub counted : Counted v
  pub apart : Distinct v
  pub node : InUse v i
  pub partial : partial_at v i ≡ partial_at w i
  pub room : used v ≤ used w + length done
  pub size : length v.nodes ≡ length w.nodes
  pub shorter : best_length v ≤ best_length w
  pub low : AllByRecursion (λ (e : Entry). y ≤ e.bound) v.bag

module _ (g : Graph) (L : Lawful g) (b : Bound) (lower : IsLowerBound b) (w : SearchState) (I : Invariant g w) (i : ℕ) (u : InUse w i) (y : ℕ) (low : y ≤ (node_at w.nodes i).bound) where
  abbrev x : SearchNode
  x = node_at w.nodes i

  -- one child more
  going-more : (done : List (ℕ × ℕ)) (v : SearchState) (c : ℕ × ℕ) → Going g w i y done v → Contains (choices g x.partial) c → used v < length v.nodes
      → Going g w i y (c ∷ done) (visited_by g b x v c)
  going-more done v c G k room = record {
    grown = grown-onward g v n (DueOf i done) (DueOf i (c ∷ done)) S.onward G.grown (λ j z l q d. elim (ℕ_discrete j i) [
      | yes e ↦ ⊎_elim
          (λ p. inr (subst (Visited g n) (ap (child g (partial_at v j)) p) (subst (λ s. Visited g n (child g s c)) (sym (ap (partial_at v) e ∙ G.partial)) S.told)))
          (λ p. inl (sym (S.still j l) ∙ q, λ f. p))
          (contains-cases c done z (d e))
      | no ne ↦ inl (sym (S.still j l) ∙ q, λ f. absurd (ne f))
    ]);
    listed = listed-visit v G.listed g b x.bound (child g x.partial c) room;
    counted = counted-visit g b x.bound v (child g x.partial c) G.counted;
    apart = apart-visit g b x.bound v (child g x.partial c) G.apart room;
    node = (u.0, omega (arith, G.node.1, S.onward.more));
    partial = S.onward.partial i G.node ∙ G.partial;
    room = omega (arith, G.room, used-visit g b x.bound v (child g x.partial c));
    size = size-visit g b x.bound v (child g x.partial c) ∙ G.size;
    shorter = omega (arith, S.onward.shorter, G.shorter);
    low = low-visit g b x.bound v (child g x.partial c) y low G.low;
  }
    where
      n : SearchState
      n = visited_by g b x v c

      R : Reachable g x.partial
      R = I.grown.reachable i u

      S : Step g v n (child g x.partial c)
      S = visit-step g (DueOf i done) v G.grown (child g x.partial c)
          (chosen-reachable g L x.partial R c k)
          (chosen-tasks g L x.partial R c k (λ t. I.grown.tasks i t u))
          b x.bound (chosen-under g L x.partial R c k (λ t. I.grown.tasks i t u) b lower x.bound (I.grown.under i u)) room

  -- all children, one after the other
  going-all : (todo done : List (ℕ × ℕ)) (v : SearchState) → ((c : ℕ × ℕ) → Contains todo c → Contains (choices g x.partial) c)
      → used w + length done + length todo ≤ length w.nodes → Going g w i y done v
      → (all : List (ℕ × ℕ)) × ((c : ℕ × ℕ) → Contains todo c ⊎ Contains done c → Contains all c) × Going g w i y all (fold (visited_by g b x) v todo)
  going-all [] done v within room G = (done, (λ c. ⊎_elim (λ k. absurd (omega (arith, k.1))) (λ k. k)), G)
  going-all (c ∷ todo) done v within room G =
      let more = going-more done v c G (within c (contains-first c todo)) (omega (arith, G.room, G.size)) in
      let rest = going-all todo (c ∷ done) (visited_by g b x v c) (λ d k. within d (contains-later c todo d k)) (omega arith) more in (
        rest.0,
        (λ d. ⊎_elim
            (λ k. ⊎_elim (λ e. rest.1 d (inr (subst (Contains (c ∷ done)) e (contains-first c done)))) (λ k. rest.1 d (inl k)) (contains-cases c todo d k))
            (λ k. rest.1 d (inr (contains-later c done d k)))),
        rest.2,
      )

  -- the node is taken, none of its children visited
  going-none : next_node w.bag ≡ i → 0 < length w.bag → AllByRecursion (λ (e : Entry). y ≤ e.bound) w.bag → Going g w i y [] (taken w i)
  going-none e some all = record {
    grown = grown-onward g w (taken w i) All (DueOf i []) onward I.grown (λ j z l q d. elim (ℕ_discrete j i) [
      | yes k ↦ absurd (omega (arith, (d k).1))
      | no ne ↦ inl (sym (ap (λ (n : SearchNode). n.waiting) (other j ne)) ∙ q, tt)
    ]);
    listed = subst (λ k. Listed (taken w k)) e (listed-taken w I.listed some I.grown.room);
    counted = counted-taken w i I.counted some;
    apart = apart-on w (taken w i) I.apart refl (λ j l. keeps (λ (n : SearchNode). n.partial) refl j)
        (ap (λ (n : SearchNode). n.waiting) zeroth ∙ I.apart.zeroth);
    node = u;
    partial = ap (λ (n : SearchNode). n.partial) same;
    room = omega arith;
    size = length-set w.nodes i (expanded_node x);
    shorter = omega (arith, onward.shorter);
    low = low-rest w.bag all;
  }
    where
      same : node_at (taken w i).nodes i ≡ expanded_node x
      same = get_or-set_same w.nodes i (expanded_node x) no_node (omega (arith, u.1, I.grown.room))

      other : (j : ℕ) → j ≢ i → node_at (taken w i).nodes j ≡ node_at w.nodes j
      other j ne = get_or-set_other w.nodes i j (expanded_node x) no_node ne

      keeps : {A : Type 0} (f : SearchNode → A) → f (expanded_node x) ≡ f x → (j : ℕ) → f (node_at (taken w i).nodes j) ≡ f (node_at w.nodes j)
      keeps f h j = elim (ℕ_discrete j i) [
        | yes e ↦ ap (λ k. f (node_at (taken w i).nodes k)) e ∙ ap f same ∙ h ∙ sym (ap (λ k. f (node_at w.nodes k)) e)
        | no ne ↦ ap f (other j ne)
      ]

      zeroth : node_at (taken w i).nodes 0 ≡ node_at w.nodes 0
      zeroth = let ne : 0 ≢ i = omega (arith, u.0) in other 0 ne

      onward : Onward g w (taken w i)
      onward = record {
        more = omega arith;
        partial = λ j l. keeps (λ (n : SearchNode). n.partial) refl j;
        bound = λ j l. keeps (λ (n : SearchNode). n.bound) refl j;
        shorter = omega (arith, ap (λ (n : SearchNode). n.bound) zeroth);
        new = λ j h l. absurd (omega arith);
        best = subst (BestNode g) (sym zeroth) I.grown.best;
        room = omega (arith, length-set w.nodes i (expanded_node x), I.grown.room);
      }

      low-rest : (es : List Entry) → AllByRecursion (λ (e : Entry). y ≤ e.bound) es → AllByRecursion (λ (e : Entry). y ≤ e.bound) (rest es)
      low-rest [] h = tt
      low-rest (e ∷ es) h = h.1

-- once all are visited, all are due
all-due : (g : Graph) (w v : SearchState) (i y : ℕ) (all : List (ℕ × ℕ)) → ((c : ℕ × ℕ) → Contains (choices g (partial_at w i)) c → Contains all c) → Going g w i y all v → Grown g All v
all-due g w v i y all has G = record {
  reachable = G.grown.reachable;
  unfinished = G.grown.unfinished;
  tasks = G.grown.tasks;
  under = G.grown.under;
  visited = λ j c l q k d. G.grown.visited j c l q k
      (λ e. has c (subst (λ s. Contains (choices g s) c) (ap (partial_at v) e ∙ G.partial) k));
  root = G.grown.root;
  best = G.grown.best;
  room = G.grown.room;
}

low-floor : (y z : ℕ) (b : List Entry) → y ≤ z → AllByRecursion (λ (e : Entry). y ≤ e.bound) b → y ≤ least_bound z b
low-floor y z [] h low = h
low-floor y z (e ∷ es) h low = omega (arith, low.0)

-- the first entry: its node is used, and the floor is at most its bound, as at most every bound in the list
first-node : (w : SearchState) → Listed w → 0 < length w.bag
    → InUse w (next_node w.bag) × (floor w ≤ (node_at w.nodes (next_node w.bag)).bound) × AllByRecursion (λ (e : Entry). floor w ≤ e.bound) w.bag
first-node w K some = go w.bag some K.right K.order
  where
    go : (b : List Entry) → 0 < length b → AllByRecursion (IsRight w) b → InOrder entry_before b
        → InUse w (next_node b) × (least_bound (best_length w) b ≤ (node_at w.nodes (next_node b)).bound)
        × AllByRecursion (λ (e : Entry). least_bound (best_length w) b ≤ e.bound) b
    go [] h r o = absurd (omega arith)
    go (e ∷ es) h r o = (
      r.0.0,
      omega (arith, r.0.2),
      (omega arith, All-weaker (λ (z : Entry). entry_before z e ≡ false) (λ (z : Entry). least_bound (best_length w) (e ∷ es) ≤ z.bound) after es o.0),
    )
      where
        after : (z : Entry) → entry_before z e ≡ false → least_bound (best_length w) (e ∷ es) ≤ z.bound
        after z q = ⊎_elim (λ l. omega (arith, l)) (λ l. omega (arith, l.0)) (not-below z.bound e.node e.bound z.node q)

-- and there are as many nodes as before
pub expansion-size : (g : Graph) (b : Bound) (w : SearchState) (i : ℕ) → length (expanded g b w i).nodes ≡ length w.nodes
expansion-size g b w i = expansion-visits g b w i (λ v. length v.nodes ≡ length w.nodes)
    (λ v c e. size-visit g b (node_at w.nodes i).bound v c ∙ e)
    (length-set w.nodes i (expanded_node (node_at w.nodes i)))

pub expansion-keeps : ExpansionKeeps
unfolding expanded
expansion-keeps g b w L lower I some room =
    let i : ℕ = next_node w.bag in
    let f = first-node w I.listed some in
    let start = going-none g L b lower w I i f.0 (floor w) f.1 refl some f.2 in
    let end = going-all g L b lower w I i f.0 (floor w) f.1 (choices g (partial_at w i)) [] (taken w i) (λ c k. k) (omega arith) start in
    let v : SearchState = fold (visited_by g b (node_at w.nodes i)) (taken w i) (choices g (partial_at w i)) in
    let grown : Grown g All v = all-due g w v i (floor w) end.0 (λ c k. end.1 c (inl k)) end.2 in (
      record { grown = grown; listed = end.2.listed; counted = end.2.counted; apart = end.2.apart },
      low-floor (floor w) (best_length v) v.bag (omega (arith, floor-holds g w L I (best_schedule v) (best-feasible g v L grown), grown.best.2)) end.2.low,
      end.2.shorter,
    )
