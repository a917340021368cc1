use Rattle.std.proofs.Common.{◌≡◌, ℕ, zero, suc, ◌+◌, Bool, true, false, cond, ltb, List, [], ◌∷◌, Some, None, Option, Ordering, sym, refl, ap, ◌∙◌, subst, arith}
use Rattle.std.specs.Fn.{CalledAt}
use Rattle.std.specs.Iterator.{PicksMinByKey, KeyTurn}
use Rattle.std.specs.List.{FoldsTo, fold, reduce, filter, range_with_len}
use Rattle.std.specs.Ordering.{min_by_ordering, nat_cmp}
use Rattle.std.specs.declared.cmp.Ordering.TheVariants.{Less, Equal, Greater}
use denote.Param.Members.{Mut}
use denote.Ref.{Bor}
use mathlib.Core.List.{map-id}
use Rattle.std.proofs.lemmas.Iterator.{YieldsList}
use Rattle.std.proofs.iter.Yields.{gives_Drains}
use native.Mathlib.Decide.{dec_lt}
use Rattle.std.proofs.lemmas.Bool.{lt-ltb, le-ltb, eq-eqb, ne_eqb}

-- What `min_by_key` answers: the first item of the list with the least key.

abbrev pub pick : {A K : Type 0} → (K → K → Ordering) → (A → K) → A → A → A
pick cmp key b z = min_by_ordering (cmp (key b) (key z)) b z

module _ {A F K : Type 0} {g : Mut F (Bor A × Unit {0}) K} (cmp : K → K → Ordering) (key : A → K) (f : F) (pure : (x : A) (k : K) (q : F) → CalledAt g f x k q → (q ≡ f) × (k ≡ key x)) where
  key-of : (o : Ordering) (b z : A) → min_by_ordering o (key b) (key z) ≡ key (min_by_ordering o b z)
  key-of Less b z = refl
  key-of Equal b z = refl
  key-of Greater b z = refl

  abbrev Turns : F → K → A → List A → F × K → A → Type 0
  Turns h k x xs q y = FoldsTo {P = (F × K) × A} (KeyTurn min_by_ordering min_by_ordering g cmp) ((h, k), x) xs (q, y)

  turned : (h : F) (k : K) (x : A) (xs : List A) (q : F × K) (y : A) → h ≡ f → k ≡ key x → Turns h k x xs q y → y ≡ fold (pick cmp key) x xs
  turned h k x [] q y eh ek t = sym (ap (λ (p : (F × K) × A). p.1) t)
  turned h k x (z ∷ zs) q y eh ek t =
      let j = t.0 in
      let o = t.1.1 in
      let p = pure z t.1.0 j.0.0 (subst (λ m. CalledAt g m z t.1.0 j.0.0) eh t.1.2) in
      let is : o ≡ cmp (key x) (key z) = sym t.1.3 ∙ (λ i. cmp (ek i) (p.1 i)) in
      let best : j.1 ≡ pick cmp key x z = t.1.5 ∙ ap (λ (w : Ordering). min_by_ordering w x z) is in
      let its_key : j.0.1 ≡ key j.1 = t.1.4 ∙ (λ i. min_by_ordering o (ek i) (p.1 i)) ∙ key-of o x z ∙ ap key (sym t.1.5) in
      turned j.0.0 j.0.1 j.1 zs q y p.0 its_key t.2 ∙ ap (λ b. fold (pick cmp key) b zs) best

  pub least-picked : {S : Type 0} {steps : S → Option A → S → Type 0} {all : List A} (s : S) (r : Option A)
      → PicksMinByKey steps g cmp s f r → YieldsList steps (λ x. x) s all → r ≡ reduce (pick cmp key) all
  least-picked {steps = steps} {all} s None h e = ap (reduce (pick cmp key)) (gives_Drains steps (λ x. x) [] all s e.runs h)
  least-picked {steps = steps} {all} s (Some y) h e =
      let p = pure h.0 h.2 h.3 h.6 in
      ap Some (turned h.3 h.2 h.0 h.1 h.4 y p.0 p.1 h.7)
      ∙ ap (reduce (pick cmp key)) (sym (map-id (h.0 ∷ h.1)) ∙ gives_Drains steps (λ x. x) (h.0 ∷ h.1) all s e.runs h.5)

-- at numbers
pub nat-picks : {A : Type 0} (m n : ℕ) (x y : A) → min_by_ordering (nat_cmp m n) x y ≡ cond (ltb n m) y x
nat-picks m n x y = elim (dec_lt m n) [
  | yes l ↦ rw (lt-ltb m n l, le-ltb n m (omega arith))
  | no l ↦ elim (dec_lt n m) [
    | yes k ↦ rw (le-ltb m n (omega arith), ne_eqb m n (omega arith), lt-ltb n m k)
    | no k ↦ rw (le-ltb m n (omega arith), eq-eqb m n (omega arith), le-ltb n m (omega arith))
  ]
]

-- over the numbers below n
module _ {B : Type 0} (h : B → ℕ → B) where
  fold-more : (a : B) (i n : ℕ) → fold h a (range_with_len i (suc n)) ≡ h (fold h a (range_with_len i n)) (i + n)
  fold-more a i zero = ap (h a) (let z : i ≡ i + 0 = omega arith in z)
  fold-more a i (suc n) =
      fold-more (h a i) (i + 1) n
      ∙ ap (h (fold h (h a i) (range_with_len (i + 1) n))) (let z : i + 1 + n ≡ i + suc n = omega arith in z)

  pub fold-below : (a : B) (n : ℕ) → fold h a (range_with_len 0 (suc n)) ≡ h (fold h a (range_with_len 0 n)) n
  fold-below a n = fold-more a 0 n ∙ ap (h (fold h a (range_with_len 0 n))) (let z : 0 + n ≡ n = omega arith in z)

-- of those that a test lets through: none so far, or the best so far
abbrev pub best-if : {A : Type 0} → Bool → (A → A → A) → Option A → A → Option A
best-if r f None x = cond r (Some x) None
best-if r f (Some b) x = cond r (Some (f b x)) (Some b)

abbrev pub best : {A : Type 0} → (A → Bool) → (A → A → A) → Option A → A → Option A
best p f o x = best-if (p x) f o x

module _ {A : Type 0} (p : A → Bool) (f : A → A → A) where
  reduce-kept : (b : A) (xs : List A) → Some (fold f b (filter p xs)) ≡ fold (best p f) (Some b) xs
  reduce-kept b [] = refl
  reduce-kept b (x ∷ xs) = go (p x) (reduce-kept (f b x) xs) (reduce-kept b xs)
    where
      go : (c : Bool) → Some (fold f (f b x) (filter p xs)) ≡ fold (best p f) (Some (f b x)) xs → Some (fold f b (filter p xs)) ≡ fold (best p f) (Some b) xs
          → Some (fold f b (cond c (x ∷ filter p xs) (filter p xs))) ≡ fold (best p f) (cond c (Some (f b x)) (Some b)) xs
      go true on off = on
      go false on off = off

  pub reduce-filtered : (xs : List A) → reduce f (filter p xs) ≡ fold (best p f) None xs
  reduce-filtered [] = refl
  reduce-filtered (x ∷ xs) = go (p x) (reduce-filtered xs)
    where
      go : (c : Bool) → reduce f (filter p xs) ≡ fold (best p f) None xs → reduce f (cond c (x ∷ filter p xs) (filter p xs)) ≡ fold (best p f) (cond c (Some x) None) xs
      go true off = reduce-kept x xs
      go false off = off
