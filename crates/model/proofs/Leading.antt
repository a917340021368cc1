use Rattle.std.proofs.Common.{◌≡◌, ℕ, zero, suc, ◌<◌, ◌≤◌, Bool, true, false, not, ◌&&◌, eqb, ◌⊎◌, sym, refl, ap, ◌∙◌, inl, inr, arith}
use native.Mathlib.Decide.{ℕ_discrete, dec_le, dec_lt}
use Rattle.std.proofs.lemmas.Bool.{eq-eqb, eqb-true, and_from, and_parts, not-true, not_from_false}
use Rattle.model.specs.Graph.{Graph}
use borrow.Author.Clash.{clash}
use Rattle.model.proofs.Counting.{missing}
use Rattle.model.proofs.Minimal.{Dag, minimal}

-- Which unplaced task of a completion is appended next: the one chosen by start, then by work, then not fed by a tie. Work counts for
-- tasks of work 0, which can start and finish with another task of their machine.

record Leads (g : Graph) (start : ℕ → ℕ) (a b : ℕ) : Type 0 where
  pub first : start a ≤ start b
  pub second : start a ≡ start b → g.work a ≤ g.work b

leads-refl : (g : Graph) (start : ℕ → ℕ) (a : ℕ) → Leads g start a a
leads-refl g start a = omega arith

leads-trans : (g : Graph) (start : ℕ → ℕ) (a b c : ℕ) → Leads g start a b → Leads g start b c → Leads g start a c
leads-trans g start a b c h k = omega arith

leads-total : (g : Graph) (start : ℕ → ℕ) (a b : ℕ) → Leads g start a b ⊎ Leads g start b a
leads-total g start a b =
    elim (dec_lt (start a) (start b)) [
      | yes h ↦ inl (omega arith)
      | no h ↦ elim (dec_lt (start b) (start a)) [
        | yes k ↦ inr (omega arith)
        | no k ↦ elim (dec_le (g.work a) (g.work b)) [ yes i ↦ inl (omega arith) | no i ↦ inr (omega arith) ]
      ]
    ]

-- t leads all unplaced tasks below n
abbrev Lead : (g : Graph) (start : ℕ → ℕ) (placed : ℕ → Bool) → ℕ → ℕ → Type 0
Lead g start placed n t = (t < n) × (placed t ≡ false) × ((u : ℕ) → u < n → placed u ≡ false → Leads g start t u)

lead : (g : Graph) (start : ℕ → ℕ) (placed : ℕ → Bool) (n : ℕ) → ((t : ℕ) × Lead g start placed n t) ⊎ ((u : ℕ) → u < n → placed u ≡ true)
lead g start placed zero = inr (λ u h. absurd (omega arith))
lead g start placed (suc n) = go (placed n) refl (lead g start placed n)
  where
    go : (b : Bool) → placed n ≡ b → ((t : ℕ) × Lead g start placed n t) ⊎ ((u : ℕ) → u < n → placed u ≡ true)
        → ((t : ℕ) × Lead g start placed (suc n) t) ⊎ ((u : ℕ) → u < suc n → placed u ≡ true)
    go true e (inr all) = inr (λ u h. elim (ℕ_discrete u n) [ yes q ↦ ap placed q ∙ e | no q ↦ all u (omega arith) ])
    go true e (inl x) = inl (x.0, (omega (arith, x.1.0), x.1.1, λ u h p. elim (ℕ_discrete u n) [ yes q ↦ clash (placed n) e (sym (ap placed q) ∙ p) | no q ↦ x.1.2 u (omega arith) p ]))
    go false e (inr all) = inl (n, (omega arith, e, λ u h p. elim (ℕ_discrete u n) [ yes q ↦ rw q (leads-refl g start n) | no q ↦ clash (placed u) (all u (omega arith)) p ]))
    go false e (inl x) = elim (leads-total g start x.0 n) [
      | inl l ↦ inl (x.0, (omega (arith, x.1.0), x.1.1, λ u h p. elim (ℕ_discrete u n) [ yes q ↦ rw q l | no q ↦ x.1.2 u (omega arith) p ]))
      | inr l ↦ inl (n, (omega arith, e, λ u h p. elim (ℕ_discrete u n) [ yes q ↦ rw q (leads-refl g start n) | no q ↦ leads-trans g start n x.0 u l (x.1.2 u (omega arith) p) ]))
    ]

-- the unplaced task that is chosen: it leads all others, and no task that ties with it feeds it
pub record Chosen (g : Graph) (start : ℕ → ℕ) (placed : ℕ → Bool) (t : ℕ) : Type 0 where
  pub low : t < g.tasks
  pub unplaced : placed t ≡ false
  pub leads : (u : ℕ) → u < g.tasks → placed u ≡ false → (start t ≤ start u) × (start t ≡ start u → g.work t ≤ g.work u)
  pub unfed : (k : ℕ) → k < g.count → g.to k ≡ t → placed (g.from k) ≡ false → start (g.from k) ≡ start t → g.work (g.from k) ≡ g.work t → ⊥

-- unplaced, and starts and finishes with t
abbrev ties : (g : Graph) (start : ℕ → ℕ) (placed : ℕ → Bool) (t : ℕ) → ℕ → Bool
ties g start placed t u = not (placed u) && (eqb (start u) (start t) && eqb (g.work u) (g.work t))

tie : (g : Graph) (start : ℕ → ℕ) (placed : ℕ → Bool) (t u : ℕ) → placed u ≡ false → start u ≡ start t → g.work u ≡ g.work t → ties g start placed t u ≡ true
tie g start placed t u p q r = and_from _ _ (not_from_false _ p) (and_from _ _ (eq-eqb (start u) (start t) q) (eq-eqb (g.work u) (g.work t) r))

untie : (g : Graph) (start : ℕ → ℕ) (placed : ℕ → Bool) (t u : ℕ) → ties g start placed t u ≡ true → (placed u ≡ false) × (start u ≡ start t) × (g.work u ≡ g.work t)
untie g start placed t u e =
    let p = and_parts (not (placed u)) _ e in
    let q = and_parts (eqb (start u) (start t)) _ p.1 in
    (not-true _ p.0, eqb-true _ _ q.0, eqb-true _ _ q.1)

pub chosen : (g : Graph) → Dag g → (start : ℕ → ℕ) (placed : ℕ → Bool) → ((t : ℕ) × Chosen g start placed t) ⊎ ((u : ℕ) → u < g.tasks → placed u ≡ true)
chosen g S start placed = go (lead g start placed g.tasks)
  where
    go : ((t : ℕ) × Lead g start placed g.tasks t) ⊎ ((u : ℕ) → u < g.tasks → placed u ≡ true) → ((t : ℕ) × Chosen g start placed t) ⊎ ((u : ℕ) → u < g.tasks → placed u ≡ true)
    go (inr all) = inr all
    go (inl (t, L)) =
        let T : ℕ → Bool = ties g start placed t in
        let m = minimal g S T (λ _. false) (missing (λ _. false) g.tasks) (omega arith) t L.0 (tie g start placed t t L.1 refl refl) (λ v q. clash false q refl) in
        let u : ℕ = m.0 in
        let x = untie g start placed t u m.2 in
        inl (
          u,
          record {
            low = m.1;
            unplaced = x.0;
            leads = λ v hv q. let l = L.2 v hv q in (omega (arith, l.first, x.1), λ e. omega (arith, l.second (sym x.1 ∙ e), x.2));
            unfed = λ k hk e q y z. clash (T (g.from k)) (tie g start placed t (g.from k) q (y ∙ x.1) (z ∙ x.2)) (m.3 k hk e);
          },
        )
