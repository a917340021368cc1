use Rattle.std.proofs.Common.{◌≡◌, ℕ, zero, suc, ◌≤◌, Bool, true, false, List, [], ◌∷◌, ◌++◌, length, get_or, take, drop, refl, ap, subst, not-suc-le-zero, le_of_suc-le-suc, arith}
use native.Mathlib.Decide.{ℕ_discrete}
use borrow.Author.Clash.{clash}
use Rattle.std.specs.List.{AllWithin}
use Rattle.std.specs.List.Sorted.{IsPartitionedBy}
use Rattle.bag.specs.Order.{Total}
use Rattle.bag.specs.Bag.{insert, InOrder}
use Rattle.bag.proofs.Bags.{irreflexive, places-in-order}

-- Where an entry is put into a list in order.

module _ {X : Type 0} (before : X → X → Bool) (e : X) where
  -- behind all that come before it, and in front of all others, is where `insert` puts it
  pub placed : (xs : List X) (i : ℕ) → i ≤ length xs → AllWithin (λ y. before y e ≡ true) xs 0 i → AllWithin (λ y. before y e ≡ false) xs i (length xs)
      → take i xs ++ e ∷ drop i xs ≡ insert before e xs
  placed [] zero h p q = refl
  placed [] (suc i) h p q = absurd (not-suc-le-zero h)
  placed (x ∷ xs) zero h p q = let f : before x e ≡ false = q 0 x (omega arith) (omega arith) in rw f refl
  placed (x ∷ xs) (suc i) h p q =
      let t : before x e ≡ true = p 0 x (omega arith) (omega arith) in
      rw t (ap (λ (l : List X). x ∷ l) (placed xs i (le_of_suc-le-suc h) (λ k d a b. p (suc k) d (omega arith) (omega arith)) (λ k d a b. q (suc k) d (omega arith) (omega arith))))

  -- in a list in order, those that come before it stand in front
  pub parted : Total before → (xs : List X) → InOrder before xs → IsPartitionedBy (λ y. before y e) xs
  parted o xs h i j d le lt t =
      let x = get_or xs i d in
      let y = get_or xs j d in
      let later : before y x ≡ false = elim (ℕ_discrete i j) [
        | yes q ↦ subst (λ (k : ℕ). before (get_or xs k d) x ≡ false) q (irreflexive before o x)
        | no ne ↦ places-in-order before o xs d h i j (omega arith, lt)
      ] in
      by-test later (before x e) refl
    where
      by-test : before (get_or xs j d) (get_or xs i d) ≡ false → (b : Bool) → before (get_or xs i d) e ≡ b → before (get_or xs i d) e ≡ true
      by-test h true q = q
      by-test h false q = clash _ t (o.transitive (get_or xs j d) (get_or xs i d) e h q)
