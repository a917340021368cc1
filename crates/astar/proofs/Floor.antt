use Rattle.std.proofs.Common.{◌≡◌, ℕ, zero, suc, ◌+◌, ◌≤◌, ◌⊎◌, Bool, true, false, List, [], ◌∷◌, sym, refl, subst, inl, inr, arith}
use native.Mathlib.Decide.{dec_lt}
use Rattle.std.specs.List.{Contains}
use Rattle.std.proofs.lemmas.List.Elements.{All-from_recursion, All-contains}
use Rattle.model.specs.Graph.{Graph, Lawful}
use Rattle.model.specs.Schedule.{Schedule, Feasible, makespan}
use Rattle.model.specs.Partial.{Partial, Complete, Free, append, whole}
use Rattle.model.specs.NormalForm.{normal_form}
use Rattle.model.specs.Completion.{Completion}
use Rattle.model.specs.Children.{choices, child}
use Rattle.model.specs.Nodes.{node_at}
use Rattle.model.proofs.Range.{le-top, top-le}
use Rattle.model.proofs.Counting.{missing, missing-alike, missing-put}
use Rattle.model.proofs.Rules.{reachable-obeys}
use Rattle.model.proofs.Starts.{lawful-dag, reachable-feasible}
use Rattle.model.proofs.Completions.{empty-completed}
use Rattle.model.proofs.Membership.{map-contains, contains-first}
use Rattle.model.proofs.Choosing.{choices-are}
use Rattle.model.proofs.Covering.{children-cover}
use Rattle.bag.specs.Bag.{InOrder}
use Rattle.bag.proofs.Bags.{first-least}
use Rattle.bag.proofs.Pairs.{not-below}
use Rattle.queue.specs.declared.entry.Entry.{Entry}
use Rattle.queue.specs.Entries.{entry_before, EntryLeads}
use Rattle.queue.specs.EntryBags.{entries-ordered}
use Rattle.astar.specs.States.{SearchState, best_length, best_schedule, entry}
use Rattle.astar.specs.Invariant.{InUse, partial_at, Visited, Grown, All}
use Rattle.astar.specs.Endings.{NoneBelow}
use Rattle.astar.specs.Laws.{least_bound, floor, FloorHolds, BestIsFeasible, FloorIsLeast}
use Rattle.astar.proofs.Duplicates.{duplicate-same, duplicate-completion}

-- no completion of a complete partial schedule is shorter than it
pub complete-shortest : (g : Graph) (c : Partial) (p : Schedule) → Complete g c → Completion g c p → makespan g (whole c) ≤ makespan g p
complete-shortest g c p full C =
    top-le g.tasks (λ t. c.start t + g.work t) (makespan g p)
    (λ t h. omega (arith, (C.keeps t h (full t h)).1, le-top g.tasks (λ t. p.start t + g.work t) t h))

-- a child lacks one task fewer
child-missing : (g : Graph) (s : Partial) (x : ℕ × ℕ) → Free g s x.0 → suc (missing (child g s x).placed g.tasks) ≡ missing s.placed g.tasks
unfolding normal_form append
child-missing g s x F = missing-put s.placed x.0 g.tasks F.0 F.1

-- a number that is at most the best length and the bound of every waiting node is at most every feasible schedule
module _ (g : Graph) (w : SearchState) (L : Lawful g) (G : Grown g All w) (y : ℕ) (best : y ≤ best_length w) (waits : (i : ℕ) → InUse w i → (node_at w.nodes i).waiting ≡ true → y ≤ (node_at w.nodes i).bound) where
  -- and every completion of a used node, by the number of tasks that the node lacks
  below : (k i : ℕ) → InUse w i → missing (partial_at w i).placed g.tasks ≤ k → (p : Schedule) → Completion g (partial_at w i) p → y ≤ makespan g p
  below zero i u h p C = let x = G.unfinished i u in absurd (omega (arith, missing-put (partial_at w i).placed x.0 g.tasks x.1 x.2))
  below (suc k) i u h p C = go (below k) (node_at w.nodes i).waiting refl
    where
      s : Partial
      s = partial_at w i

      go : ((j : ℕ) → InUse w j → missing (partial_at w j).placed g.tasks ≤ k → (q : Schedule) → Completion g (partial_at w j) q → y ≤ makespan g q)
          → (b : Bool) → (node_at w.nodes i).waiting ≡ b → y ≤ makespan g p
      go ih true e = omega (arith, waits i u e, G.under i u p C)
      go ih false e =
          let v = children-cover g s p L (G.reachable i u) (G.unfinished i u) C in
          let x = map-contains (child g s) (choices g s) v.0 v.1 in
          let F = ((choices-are g s x.0.0 x.0.1 (reachable-obeys g (lawful-dag L) (G.reachable i u)).on).0 x.1).0 in
          let z : y ≤ makespan g v.2 = told x.0 F v.2 (subst (λ c. Completion g c v.2) (sym x.2) v.3) (G.visited i x.0 u e x.1 tt) in
          omega (arith, v.4)
        where
          told : (x : ℕ × ℕ) → Free g s x.0 → (q : Schedule) → Completion g (child g s x) q → Visited g w (child g s x) → y ≤ makespan g q
          told x F q D (inl d) = omega (arith, d.1, complete-shortest g (child g s x) q d.0 D)
          told x F q D (inr (inl d)) = omega (arith, d q D)
          told x F q D (inr (inr d)) =
              let S = duplicate-same g L (child g s x) (partial_at w d.0) d.2 in
              let same = missing-alike (child g s x).placed (partial_at w d.0).placed g.tasks S.tasks in
              ih d.0 d.1 (omega (arith, child-missing g s x F)) q (duplicate-completion g L (child g s x) (partial_at w d.0) q d.2 D)

  pub grown-floor : (p : Schedule) → Feasible g p → y ≤ makespan g p
  grown-floor p M = let r = G.root in below (missing (partial_at w r.0).placed g.tasks) r.0 r.1 (omega arith) p (empty-completed g (partial_at w r.0) p r.2 M)

-- the least bound is at most the best length and every bound in the list
pub least-best : (y : ℕ) (es : List Entry) → least_bound y es ≤ y
least-best y [] = omega arith
least-best y (e ∷ es) = omega arith

pub least-listed : (y : ℕ) (es : List Entry) → InOrder entry_before es → (e : Entry) → Contains es e → least_bound y es ≤ e.bound
least-listed y [] h e c = absurd (omega (arith, c.1))
least-listed y (x ∷ es) h e c = go (not-below e.bound x.node x.bound e.node first)
  where
    first : entry_before e x ≡ false
    first = All-contains (λ z. entry_before z x ≡ false) (x ∷ es) e (All-from_recursion (λ z. entry_before z x ≡ false) (x ∷ es) (first-least entry_before entries-ordered x (x ∷ es) refl h)) c

    go : EntryLeads x e → least_bound y (x ∷ es) ≤ e.bound
    go (inl l) = omega arith
    go (inr l) = omega (arith, l.0)

-- and it is one of these
least-is : (y : ℕ) (es : List Entry) → (least_bound y es ≡ y) ⊎ ((e : Entry) × Contains es e × (least_bound y es ≡ e.bound))
least-is y [] = inl refl
least-is y (e ∷ es) = elim (dec_lt e.bound y) [
  | yes l ↦ inr (e, contains-first e es, omega (arith, l))
  | no l ↦ inl (omega (arith, l))
]

pub floor-is-least : FloorIsLeast
floor-is-least w o = record {
  best = least-best (best_length w) w.bag;
  listed = least-listed (best_length w) w.bag o;
  one = least-is (best_length w) w.bag;
}

-- where no bound is below the best length, it is the best length
pub floor-met : (w : SearchState) → NoneBelow w → floor w ≡ best_length w
floor-met w none = go w.bag none
  where
    go : (es : List Entry) → ((e : Entry) → Contains es e → best_length w ≤ e.bound) → least_bound (best_length w) es ≡ best_length w
    go [] n = refl
    go (e ∷ es) n = omega (arith, n e (contains-first e es))

pub floor-holds : FloorHolds
floor-holds g w L I =
    grown-floor g w L I.grown (floor w) (least-best (best_length w) w.bag)
    (λ i u e. least-listed (best_length w) w.bag I.listed.order (entry (node_at w.nodes i).bound i) (I.listed.there i u e))

pub best-feasible : (g : Graph) (w : SearchState) → Lawful g → Grown g All w → Feasible g (best_schedule w)
best-feasible g w L G = reachable-feasible g L G.best.0 G.best.1

pub best-is-feasible : BestIsFeasible
best-is-feasible g w L I = (best-feasible g w L I.grown, I.grown.best.2)
