use Rattle.std.proofs.Common.{◌≡◌, ℕ, ◌+◌, ◌≤◌, List, [], ◌∷◌, length, sym, subst, arith}
use Rattle.std.specs.List.{fold}
use Rattle.model.specs.Graph.{Graph}
use Rattle.model.specs.Partial.{Partial}
use Rattle.model.specs.Bounds.{Bound}
use Rattle.model.specs.Children.{choices, child}
use Rattle.model.specs.Nodes.{SearchNode, node_at}
use Rattle.astar.specs.declared.tally.Tally.{Tally}
use Rattle.astar.specs.declared.sizes.Sizes.{Sizes}
use Rattle.astar.specs.States.{SearchState, used}
use Rattle.astar.specs.Expansion.{visited, visited_by, taken, expanded}
use Rattle.astar.proofs.Visits.{visit-cases}
use Rattle.search.specs.Counts.{Sensible}

-- A node that is expanded leaves sensible counts.

-- from s to t n children were counted
record Progress (n : ℕ) (s t : Tally) : Type 0 where
  made : t.stored + t.duplicates + t.pruned + t.complete ≡ t.generated
  waiting : t.waiting + t.expanded ≡ t.stored + 1
  generated : t.generated ≡ s.generated + n
  expanded : t.expanded ≡ s.expanded
  stored : t.stored ≤ s.stored + n

module _ (g : Graph) (b : Bound) (s : Tally) where
  progress-visit : (up n : ℕ) (w : SearchState) (c : Partial) → Progress n s w.tally → Progress (n + 1) s (visited g b up w c).tally
  progress-visit up n w c P = visit-cases g b up w c (λ v. Progress (n + 1) s v.tally)
      (λ e l. record { made = omega (arith, P.made); waiting = omega (arith, P.waiting); generated = omega (arith, P.generated); expanded = P.expanded; stored = omega (arith, P.stored) })
      (λ e l. record { made = omega (arith, P.made); waiting = omega (arith, P.waiting); generated = omega (arith, P.generated); expanded = P.expanded; stored = omega (arith, P.stored) })
      (λ l. record { made = omega (arith, P.made); waiting = omega (arith, P.waiting); generated = omega (arith, P.generated); expanded = P.expanded; stored = omega (arith, P.stored) })
      (λ h. record { made = omega (arith, P.made); waiting = omega (arith, P.waiting); generated = omega (arith, P.generated); expanded = P.expanded; stored = omega (arith, P.stored) })
      (λ e. record { made = omega (arith, P.made); waiting = omega (arith, P.waiting); generated = omega (arith, P.generated); expanded = P.expanded; stored = omega (arith, P.stored) })

  progress-all : (x : SearchNode) (todo : List (ℕ × ℕ)) (n : ℕ) (w : SearchState) → Progress n s w.tally → Progress (n + length todo) s (fold (visited_by g b x) w todo).tally
  progress-all x [] n w P = subst (λ m. Progress m s w.tally) (omega arith) P
  progress-all x (c ∷ todo) n w P =
      subst (λ m. Progress m s (fold (visited_by g b x) (visited_by g b x w c) todo).tally) (omega arith)
      (progress-all x todo (n + 1) (visited_by g b x w c) (progress-visit x.bound n w (child g x.partial c) P))

pub sensible-expanded : (g : Graph) (b : Bound) (z : Sizes) (w : SearchState) (i : ℕ) → Sensible z w.tally → 1 ≤ w.tally.waiting
    → used w + length (choices g (node_at w.nodes i).partial) ≤ z.nodes → length (choices g (node_at w.nodes i).partial) ≤ 256
    → (t : Tally) → t ≡ (expanded g b w i).tally → Sensible z t
unfolding expanded
sensible-expanded g b z w i S some room few t e =
    let P = progress-all g b (taken w i).tally (node_at w.nodes i) (choices g (node_at w.nodes i).partial) 0 (taken w i)
    (record { made = S.made; waiting = omega (arith, S.waiting, some); generated = omega arith; expanded = omega arith; stored = omega arith }) in
    subst (Sensible z) (sym e) (record {
      made = P.made;
      waiting = P.waiting;
      nodes = omega (arith, P.stored, room);
      few = S.few;
      count = omega (arith, P.generated, P.expanded, S.count, few);
    })
