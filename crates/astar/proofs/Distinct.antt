use Rattle.std.proofs.Common.{◌≡◌, ℕ, ◌<◌, ◌≢◌, max, true, false, length, set, refl, sym, ap, ◌∙◌, arith, get_or-set_same, get_or-set_other}
use borrow.Author.Clash.{clash}
use native.Mathlib.Decide.{dec_lt}
use Rattle.model.specs.Graph.{Graph}
use Rattle.model.specs.Partial.{Partial}
use Rattle.model.specs.Bounds.{Bound}
use Rattle.model.specs.Nodes.{SearchNode, no_node, node_at, is_duplicate, is_held}
use Rattle.astar.specs.States.{SearchState, used, best_node, waiting_node}
use Rattle.astar.specs.Expansion.{visited, stored}
use Rattle.astar.specs.Invariant.{InUse, partial_at, Distinct}
use Rattle.astar.proofs.Visits.{bettered, visit-parts}
use Rattle.astar.proofs.Duplicates.{duplicate-back, none-held}

-- No two used nodes above 0 are duplicates.

-- where the used nodes keep their partial schedules
pub apart-on : (w v : SearchState) → Distinct w → used v ≡ used w → ((j : ℕ) → InUse w j → partial_at v j ≡ partial_at w j) → (node_at v.nodes 0).waiting ≡ false → Distinct v
apart-on w v A e keeps z = record {
  distinct = λ i j p q ne d.
      let u : InUse w i = (p.0, omega (arith, p.1, e)) in
      let o : InUse w j = (q.0, omega (arith, q.1, e)) in
      A.distinct i j u o ne (ap (λ s. is_duplicate s (partial_at w j)) (sym (keeps i u)) ∙ ap (λ s. is_duplicate (partial_at v i) s) (sym (keeps j o)) ∙ d);
  zeroth = z;
}

module _ (g : Graph) (b : Bound) (up : ℕ) (w : SearchState) (c : Partial) (A : Distinct w) (room : used w < length w.nodes) where
  y : ℕ
  y = max up (b g c)

  v : SearchState
  v = stored w c y

  -- a node more is used, where none held a duplicate
  apart-stored : is_held w.nodes (used w) c ≡ false → Distinct v
  unfolding y v
  apart-stored free = record {
    distinct = λ i j p q ne d. elim (dec_lt i (used w)) [
      | yes a ↦ elim (dec_lt j (used w)) [
        | yes e ↦ A.distinct i j (p.0, a) (q.0, e) ne (ap (λ s. is_duplicate s (partial_at w j)) (sym (old i a)) ∙ ap (λ s. is_duplicate (partial_at v i) s) (sym (old j e)) ∙ d)
        | no e ↦ against i p.0 a (duplicate-back (partial_at w i) c (ap (λ s. is_duplicate s c) (sym (old i a)) ∙ ap (λ s. is_duplicate (partial_at v i) s) (sym (new j (omega (arith, e, q.1)))) ∙ d))
      ]
      | no a ↦ elim (dec_lt j (used w)) [
        | yes e ↦ against j q.0 e (ap (λ s. is_duplicate s (partial_at w j)) (sym (new i (omega (arith, a, p.1)))) ∙ ap (λ s. is_duplicate (partial_at v i) s) (sym (old j e)) ∙ d)
        | no e ↦ absurd (ne (omega (arith, a, e, p.1, q.1)))
      ]
    ];
    zeroth = ap (λ (n : SearchNode). n.waiting) (other 0 (omega arith)) ∙ A.zeroth;
  }
    where
      other : (j : ℕ) → j < used w → node_at (set w.nodes (used w) (waiting_node c y)) j ≡ node_at w.nodes j
      other j h = let ne : j ≢ used w = omega arith in get_or-set_other w.nodes (used w) j (waiting_node c y) no_node ne

      old : (j : ℕ) → j < used w → partial_at v j ≡ partial_at w j
      old j h = ap (λ (n : SearchNode). n.partial) (other j h)

      new : (j : ℕ) → j ≡ used w → partial_at v j ≡ c
      new j e = ap (partial_at v) e ∙ ap (λ (n : SearchNode). n.partial) (get_or-set_same w.nodes (used w) (waiting_node c y) no_node room)

      against : (j : ℕ) → 0 < j → j < used w → is_duplicate c (partial_at w j) ≡ true → ⊥
      against j low high d = clash (is_duplicate c (partial_at w j)) d (none-held w.nodes (used w) c free j low high (omega arith))

  pub apart-visit : Distinct (visited g b up w c)
  unfolding y v
  apart-visit = visit-parts g b up w c Distinct
      (λ e l. apart-on w (bettered g w c) A refl
      (λ j u. let ne : j ≢ 0 = omega (arith, u.0) in ap (λ (n : SearchNode). n.partial) (get_or-set_other w.nodes 0 j (best_node g c) no_node ne))
      (ap (λ (n : SearchNode). n.waiting) (get_or-set_same w.nodes 0 (best_node g c) no_node (omega (arith, room)))))
      (λ e l. record { distinct = A.distinct; zeroth = A.zeroth })
      (λ l. record { distinct = A.distinct; zeroth = A.zeroth })
      (λ h. record { distinct = A.distinct; zeroth = A.zeroth })
      (λ e h. apart-stored h)
