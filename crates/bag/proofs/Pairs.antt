use Rattle.std.proofs.Common.{◌≡◌, ℕ, ◌<◌, Bool, true, false, ◌⊎◌, sym, inl, inr, arith}
use native.Mathlib.Decide.{ℕ_discrete, dec_lt}
use Rattle.std.proofs.lemmas.Bool.{lt-ltb, le-ltb, eq-eqb, ne_eqb}
use Rattle.bag.specs.Order.{Total}
use Rattle.bag.specs.Pairs.{below, AtMost}
use borrow.Author.Clash.{clash}

module _ (a b c d : ℕ) where
  decided : ((below a b c d ≡ true) × ((a < c) ⊎ ((a ≡ c) × (b < d)))) ⊎ ((below a b c d ≡ false) × AtMost c d a b)
  decided = elim (dec_lt a c) [
    | yes l ↦ let e = lt-ltb a c l in inl (simp e, inl l)
    | no g ↦ let e = le-ltb a c (omega (arith, g)) in elim (ℕ_discrete a c) [
      | no n ↦ let f = ne_eqb a c n in inr (simp (e, f), inl (omega (arith, g)))
      | yes q ↦ let f = eq-eqb a c q in elim (dec_lt b d) [
        | yes l ↦ let h = lt-ltb b d l in inl (simp (e, f, h), inr (q, l))
        | no m ↦ let h = le-ltb b d (omega (arith, m)) in inr (simp (e, f, h), inr (sym q, omega (arith, m)))
      ]
    ]
  ]

  pub is_below : below a b c d ≡ true → (a < c) ⊎ ((a ≡ c) × (b < d))
  is_below e = elim decided [ inl x ↦ x.1 | inr x ↦ clash (below a b c d) e x.0 ]

  pub not-below : below a b c d ≡ false → AtMost c d a b
  not-below e = elim decided [ inl x ↦ clash (below a b c d) x.0 e | inr x ↦ x.1 ]

  pub from-at-most : AtMost c d a b → below a b c d ≡ false
  from-at-most h = elim decided [
    | inr x ↦ x.0
    | inl x ↦ elim h [
      | inl p ↦ absurd (elim x.1 [ inl q ↦ omega arith | inr q ↦ omega (arith, q.0) ])
      | inr p ↦ absurd (elim x.1 [ inl q ↦ omega (arith, p.0) | inr q ↦ omega (arith, p.1, q.1) ])
    ]
  ]

-- by a first number ascending and a second one descending
module _ {X : Type 0} (p q : X → ℕ) (one : (x y : X) → p x ≡ p y → q x ≡ q y → x ≡ y) where
  abbrev Ahead : X → X → Bool
  Ahead x y = below (p x) (q y) (p y) (q x)

  chain : (a b c u v w : ℕ) → AtMost b u a v → AtMost c v b w → AtMost c u a w
  chain a b c u v w (inl g) (inl h) = inl (omega arith)
  chain a b c u v w (inl g) (inr h) = inl (omega (arith, h.0))
  chain a b c u v w (inr g) (inl h) = inl (omega (arith, g.0))
  chain a b c u v w (inr g) (inr h) = inr (omega (arith, g.0, h.0), omega (arith, g.1, h.1))

  same : (x y : X) → AtMost (p y) (q x) (p x) (q y) → AtMost (p x) (q y) (p y) (q x) → x ≡ y
  same x y (inl g) (inl h) = absurd (omega arith)
  same x y (inl g) (inr h) = absurd (omega (arith, h.0))
  same x y (inr g) (inl h) = absurd (omega (arith, g.0))
  same x y (inr g) (inr h) = one x y h.0 (omega (arith, g.1, h.1))

  pub ascending : Total Ahead
  ascending = record {
    asymmetric = λ x y h. from-at-most (p y) (q x) (p x) (q y) (elim (is_below (p x) (q y) (p y) (q x) h) [ inl l ↦ inl l | inr r ↦ inr (r.0, omega (arith, r.1)) ]);
    transitive = λ x y z g h. from-at-most (p x) (q z) (p z) (q x) (chain (p x) (p y) (p z) (q x) (q y) (q z) (not-below (p x) (q y) (p y) (q x) g) (not-below (p y) (q z) (p z) (q y) h));
    tied = λ x y g h. same x y (not-below (p x) (q y) (p y) (q x) g) (not-below (p y) (q x) (p x) (q y) h);
  }

-- the other way round
pub reversed : {X : Type 0} (before : X → X → Bool) → Total before → Total (λ x y. before y x)
reversed before o = record { asymmetric = λ x y h. o.asymmetric y x h; transitive = λ x y z g h. o.transitive z y x h g; tied = λ x y g h. o.tied x y h g }
