use Rattle.std.proofs.Common.{◌≡◌, ℕ, zero, suc, ◌<◌, ◌≤◌, Bool, true, ◌≢◌, List, length, get_or, take, drop, set, sym, refl, ap, ◌∙◌, subst, arith, length-take-le, get_or-take, drop-set-lt}
use native.Mathlib.Decide.{ℕ_discrete}
use lib.Seq.{take-set-lt}
use Rattle.std.proofs.lemmas.List.Sorted.{IsPermutation-refl, IsPermutation-trans, IsPermutation-swap}
use Rattle.std.proofs.lemmas.List.Edits.{swap_is}
use Rattle.bag.specs.Order.{Total}
use Rattle.queue.specs.Slots.{parent, NotBefore, HeapOrder, LeastChild, Rearranged}
use Rattle.bag.proofs.Bags.{head, irreflexive}

-- what `swap(i, j)` ensures, by places
abbrev pub Swapped : {X : Type 0} → List X → List X → ℕ → ℕ → Type 0
Swapped {X} xs ys i j =
    ((d : X) → get_or ys i d ≡ get_or xs j d) × ((d : X) → get_or ys j d ≡ get_or xs i d)
    × ((k : ℕ) (d : X) → (k ≡ i → ⊥) → (k ≡ j → ⊥) → get_or ys k d ≡ get_or xs k d)
    × ((d : X) → ys ≡ set (set xs i (get_or xs j d)) j (get_or xs i d))

-- arrangements
module _ {X : Type 0} where
  pub arranged-none : (n : ℕ) (xs : List X) → Rearranged n xs xs
  arranged-none n xs = record { entries = IsPermutation-refl (take n xs); others = refl }

  pub arranged-more : (n i j : ℕ) (xs ys zs : List X) → i < n → j < n → n ≤ length ys → Swapped ys zs i j → Rearranged n xs ys → Rearranged n xs zs
  arranged-more n i j xs ys zs p q le s was =
      let d = head ys (omega arith) in
      let a = get_or ys i d in
      let b = get_or ys j d in
      let is = s.3 d in
      let cut : take n zs ≡ set (set (take n ys) i b) j a = ap (take n) is ∙ take-set-lt n (set ys i b) j a q ∙ ap (λ (l : List X). set l j a) (take-set-lt n ys i b p) in
      let pa : get_or (take n ys) i d ≡ a = get_or-take n ys i d p in
      let pb : get_or (take n ys) j d ≡ b = get_or-take n ys j d q in
      let len = length-take-le n ys le in
      record {
        entries = IsPermutation-trans (take n xs) (take n ys) (take n zs) was.entries (IsPermutation-swap (take n ys) (take n zs) i j (omega arith) (omega arith)
            (cut ∙ (λ t. set (set (take n ys) i (sym pb t)) j (sym pa t)) ∙ swap_is (take n ys) i j d (omega arith) (omega arith)));
        others = ap (drop n) is ∙ drop-set-lt n (set ys i b) j a q ∙ drop-set-lt n ys i b p ∙ was.others;
      }

module _ {X : Type 0} (before : X → X → Bool) where
  -- in heap order but for slot j, which may come before the one above it
  abbrev pub Rising : List X → ℕ → ℕ → Type 0
  Rising xs j n =
      ((k : ℕ) → 1 ≤ k → k < n → k ≢ j → NotBefore before xs k (parent k))
      × ((k : ℕ) → 1 ≤ j → 1 ≤ k → k < n → parent k ≡ j → NotBefore before xs k (parent j))

  -- in heap order but for the children of slot j, which may come before it
  abbrev pub Sinking : List X → ℕ → ℕ → Type 0
  Sinking xs j n =
      ((k : ℕ) → 1 ≤ k → k < n → parent k ≢ j → NotBefore before xs k (parent k))
      × ((k : ℕ) → 1 ≤ j → 1 ≤ k → k < n → parent k ≡ j → NotBefore before xs k (parent j))

module _ {X : Type 0} (before : X → X → Bool) (o : Total before) where
  -- slot k of ys holds what slot a of xs held
  abbrev Came : List X → List X → ℕ → ℕ → Type 0
  Came xs ys k a = (d : X) → get_or ys k d ≡ get_or xs a d

  came : (xs ys : List X) (k m a : ℕ) → k ≡ m → Came xs ys m a → Came xs ys k a
  came xs ys k m a e h d = ap (λ (i : ℕ). get_or ys i d) e ∙ h d

  stays : (xs : List X) (k m : ℕ) → k ≡ m → Came xs xs k m
  stays xs k m e d = ap (λ (i : ℕ). get_or xs i d) e

  moved : (xs ys : List X) (k i a b : ℕ) → Came xs ys k a → Came xs ys i b → NotBefore before xs a b → NotBefore before ys k i
  moved xs ys k i a b p q h d = (λ t. before (p d t) (q d t)) ∙ h d

  over : (xs : List X) (k i m : ℕ) → NotBefore before xs k i → NotBefore before xs i m → NotBefore before xs k m
  over xs k i m p q d = o.transitive _ _ _ (p d) (q d)

  itself : (xs : List X) (k j : ℕ) → k ≡ j → NotBefore before xs k j
  itself xs k j e d = (λ t. before (get_or xs (e t) d) (get_or xs j d)) ∙ irreflexive before o (get_or xs j d)

  module _ (xs ys : List X) (j n : ℕ) (s : Swapped xs ys (parent j) j) (t : (d : X) → before (get_or xs j d) (get_or xs (parent j) d) ≡ true) (low : 1 ≤ j) (high : j < n) (U : Rising before xs j n) where
    after : NotBefore before xs (parent j) j
    after d = o.asymmetric _ _ (t d)

    rises-edge : (k : ℕ) → 1 ≤ k → k < n → k ≢ parent j → NotBefore before ys k (parent k)
    rises-edge k l h u = elim (ℕ_discrete k j) [
      | yes e ↦ moved xs ys k (parent k) (parent j) j (came xs ys k j (parent j) e s.1) (came xs ys (parent k) (parent j) j (ap parent e) s.0) after
      | no v ↦ elim (ℕ_discrete (parent k) (parent j)) [
        | yes e ↦ moved xs ys k (parent k) k j (λ d. s.2 k d u v) (came xs ys (parent k) (parent j) j e s.0)
            (over xs k (parent j) j (moved xs xs k (parent j) k (parent k) (stays xs k k refl) (stays xs (parent j) (parent k) (sym e)) (U.0 k l h v)) after)
        | no w ↦ elim (ℕ_discrete (parent k) j) [
          | yes e ↦ moved xs ys k (parent k) k (parent j) (λ d. s.2 k d u v) (came xs ys (parent k) j (parent j) e s.1) (U.1 k low l h e)
          | no z ↦ moved xs ys k (parent k) k (parent k) (λ d. s.2 k d u v) (λ d. s.2 (parent k) d w z) (U.0 k l h v)
        ]
      ]
    ]

    pub rises : Rising before ys (parent j) n
    rises = (
      rises-edge,
      λ k l₁ l₂ h e.
          let up = U.0 (parent j) l₁ (omega arith) (omega arith) in
          let top : Came xs ys (parent (parent j)) (parent (parent j)) = λ d. s.2 (parent (parent j)) d (omega arith) (omega arith) in
          elim (ℕ_discrete k j) [
            | yes q ↦ moved xs ys k (parent (parent j)) (parent j) (parent (parent j)) (came xs ys k j (parent j) q s.1) top up
            | no v ↦ moved xs ys k (parent (parent j)) k (parent (parent j)) (λ d. s.2 k d (omega arith) v) top
                (over xs k (parent j) (parent (parent j)) (moved xs xs k (parent j) k (parent k) (stays xs k k refl) (stays xs (parent j) (parent k) (sym e)) (U.0 k l₂ h v)) up)
          ],
    )

  -- the same for the slot above, under any name
  pub rises_to : (xs ys : List X) (i j n : ℕ) → parent j ≡ i → Swapped xs ys i j → ((d : X) → before (get_or xs j d) (get_or xs i d) ≡ true) → 1 ≤ j → j < n → Rising before xs j n → Rising before ys i n
  rises_to xs ys i j n e s t low high =
      let at : ℕ → Type 0 = λ a. Swapped xs ys a j → ((d : X) → before (get_or xs j d) (get_or xs a d) ≡ true) → Rising before xs j n → Rising before ys a n in
      subst at e (λ w u. rises xs ys j n w u low high) s t

  module _ (xs ys : List X) (j c n : ℕ) (s : Swapped xs ys j c) (t : (d : X) → before (get_or xs c d) (get_or xs j d) ≡ true) (low : 1 ≤ c) (high : c < n) (up : parent c ≡ j) (L : LeastChild before xs j c n) (S : Sinking before xs j n) where
    sinks-edge : (k : ℕ) → 1 ≤ k → k < n → parent k ≢ c → NotBefore before ys k (parent k)
    sinks-edge k l h u = elim (ℕ_discrete (parent k) j) [
      | yes e ↦ elim (ℕ_discrete k c) [
        | yes q ↦ moved xs ys k (parent k) j c (came xs ys k c j q s.1) (came xs ys (parent k) j c e s.0) (λ d. o.asymmetric _ _ (t d))
        | no v ↦ moved xs ys k (parent k) k c (λ d. s.2 k d (omega arith) v) (came xs ys (parent k) j c e s.0) (L k l h e)
      ]
      | no w ↦ elim (ℕ_discrete k j) [
        | yes q ↦ moved xs ys k (parent k) c (parent j) (came xs ys k j c q s.0) (came xs ys (parent k) (parent j) (parent j) (ap parent q) (λ d. s.2 (parent j) d (omega arith) (omega arith))) (S.1 c (omega arith) low high up)
        | no v ↦ moved xs ys k (parent k) k (parent k) (λ d. s.2 k d v (omega arith)) (λ d. s.2 (parent k) d w u) (S.0 k l h w)
      ]
    ]

    pub sinks : Sinking before ys c n
    sinks = (
      sinks-edge,
      λ k l₁ l₂ h e.
          moved xs ys k (parent c) k c (λ d. s.2 k d (omega arith) (omega arith)) (came xs ys (parent c) j c up s.0)
          (moved xs xs k c k (parent k) (stays xs k k refl) (stays xs c (parent k) (sym e)) (S.0 k l₂ h (omega arith))),
    )

  -- none comes before slot 0
  pub top-first : (xs : List X) (n : ℕ) → HeapOrder before xs n → (fuel k : ℕ) → k ≤ fuel → k < n → NotBefore before xs k 0
  top-first xs n h zero k a b = itself xs k 0 (omega arith)
  top-first xs n h (suc fuel) k a b = elim (ℕ_discrete k 0) [
    | yes e ↦ itself xs k 0 e
    | no u ↦ over xs k (parent k) 0 (h k b) (top-first xs n h fuel (parent k) (omega arith) (omega arith))
  ]
