use Rattle.std.proofs.Common.{◌≡◌, ℕ, suc, ◌+◌, ◌<◌, ◌≤◌, Bool, false, List, [], ◌∷◌, ◌++◌, length, get_or, take, drop, set, Some, sym, refl, ap, ◌∙◌, subst, add-one, arith, length-append, take-append-drop, length-take-le, get_or-drop, get_or-take, take-suc, take-suc-set, get_or-set_other, ◌-◌}
use Rattle.std.specs.List.Sorted.{IsPermutation}
use Rattle.std.specs.List.{AllByRecursion, slice_get}
use Rattle.std.proofs.ByRecursion.{All-from_get_or}
use Rattle.std.proofs.lemmas.List.Sorted.{IsPermutation-refl, IsPermutation-trans, IsPermutation-cons, IsPermutation-to_front, length_permutation}
use Rattle.bag.specs.Order.{Total}
use Rattle.bag.specs.Bag.{insert, sorted, first, rest}
use Rattle.queue.specs.Slots.{HeapOrder, Rearranged}
use Rattle.bag.proofs.Bags.{head, first-some, length-bag, sorted-shuffled, sorted-least}
use Rattle.queue.proofs.Sifting.{Swapped, arranged-none, arranged-more, top-first}

module _ {X : Type 0} where
  pub arranged-length : (n : ℕ) (xs ys : List X) → Rearranged n xs ys → length ys ≡ length xs
  arranged-length n xs ys a =
      let p = ap length (take-append-drop n xs) in
      let q = ap length (take-append-drop n ys) in
      omega (arith, length-append (take n xs) (drop n xs), length-append (take n ys) (drop n ys), length_permutation (take n xs) (take n ys) a.entries, ap length a.others)

  same-slot : (n : ℕ) (xs ys : List X) (k : ℕ) (d : X) → drop n ys ≡ drop n xs → get_or ys (n + k) d ≡ get_or xs (n + k) d
  same-slot n xs ys k d e = sym (get_or-drop n ys k d) ∙ ap (λ (l : List X). get_or l k d) e ∙ get_or-drop n xs k d

  -- the slots behind those that were arranged
  behind : (n : ℕ) (xs ys : List X) → Rearranged n xs ys → (k : ℕ) (d : X) → n ≤ k → get_or ys k d ≡ get_or xs k d
  behind n xs ys a k d h =
      let e : n + (k - n) ≡ k = omega arith in
      subst (λ (m : ℕ). get_or ys m d ≡ get_or xs m d) e (same-slot n xs ys (k - n) d a.others)

  pub behind-pushed : (xs zs : List X) (n : ℕ) (x : X) → Rearranged (n + 1) (set xs n x) zs → (k : ℕ) (d : X) → n ≤ k → n + 1 ≤ k → get_or zs k d ≡ get_or xs k d
  behind-pushed xs zs n x a k d p q = behind (n + 1) (set xs n x) zs a k d q ∙ get_or-set_other xs n k x d (omega arith)

  pub behind-popped : (xs ys zs : List X) (n m : ℕ) → suc m ≡ n → Swapped xs ys 0 m → Rearranged m ys zs → (k : ℕ) (d : X) → n ≤ k → m ≤ k → get_or zs k d ≡ get_or xs k d
  behind-popped xs ys zs n m e s a k d p q = behind m ys zs a k d q ∙ s.2 k d (omega arith) (omega arith)

  pub vacated : (xs ys zs : List X) (m : ℕ) → Swapped xs ys 0 m → Rearranged m ys zs → (d : X) → get_or zs m d ≡ get_or xs 0 d
  vacated xs ys zs m s a d = behind m ys zs a m d (omega arith) ∙ s.1 d

  -- slot 0 apart, the others are left
  left_over : (xs ys zs : List X) (n m : ℕ) (d : X) → suc m ≡ n → n ≤ length xs → Swapped xs ys 0 m → Rearranged m ys zs → IsPermutation (take n xs) (get_or xs 0 d ∷ take m zs)
  left_over xs ys zs n m d e le s a =
      let swap = arranged-more n 0 m xs xs ys (omega arith) (omega arith) le s (arranged-none n xs) in
      let len = arranged-length n xs ys swap in
      let cut : take n ys ≡ take m ys ++ get_or xs 0 d ∷ [] = ap (λ (k : ℕ). take k ys) (sym e) ∙ take-suc ys m d (omega arith) ∙ ap (λ (x : X). take m ys ++ x ∷ []) (s.1 d) in
      let front = subst (λ (l : List X). IsPermutation l (get_or xs 0 d ∷ take m ys)) (sym cut) (IsPermutation-to_front (take m ys) (get_or xs 0 d)) in
      IsPermutation-trans (take n xs) (take n ys) (get_or xs 0 d ∷ take m zs) swap.entries
      (IsPermutation-trans (take n ys) (get_or xs 0 d ∷ take m ys) (get_or xs 0 d ∷ take m zs) front (IsPermutation-cons (get_or xs 0 d) (take m ys) (take m zs) a.entries))

module _ {X : Type 0} (before : X → X → Bool) (o : Total before) where
  none_before : (xs : List X) (n : ℕ) (d : X) → n ≤ length xs → HeapOrder before xs n → AllByRecursion (λ y. before y (get_or (take n xs) 0 d) ≡ false) (take n xs)
  none_before xs n d le h =
      let len = length-take-le n xs le in
      All-from_get_or (λ y. before y (get_or (take n xs) 0 d) ≡ false) (take n xs) d
      (λ k p. let q : k < n = omega arith in let z : 0 < n = omega arith in (λ i. before (get_or-take n xs k d q i) (get_or-take n xs 0 d z i)) ∙ top-first before o xs n h k k (omega arith) q d)

  -- a first entry that none comes before is the first of the bag
  first-led : (l : List X) → ((d : X) → AllByRecursion (λ y. before y (get_or l 0 d) ≡ false) l) → slice_get l 0 ≡ first (sorted before l)
  first-led [] h = refl
  first-led (x ∷ xs) h = sym (ap first (sorted-least before o (x ∷ xs) xs x (IsPermutation-refl (x ∷ xs)) (h x)))

  pub peeked : (xs : List X) (n : ℕ) → n ≤ length xs → HeapOrder before xs n → slice_get (take n xs) 0 ≡ first (sorted before (take n xs))
  peeked xs n le h = first-led (take n xs) (λ d. none_before xs n d le h)

  -- where there is a first entry, there are entries
  pub held : (xs : List X) (n : ℕ) (x : X) → n ≤ length xs → Some x ≡ first (sorted before (take n xs)) → 0 < n
  held xs n x le e = omega (arith, first-some (sorted before (take n xs)) x e, length-bag before xs n le)

  pub popped : (xs ys zs : List X) (n m : ℕ) → suc m ≡ n → n ≤ length xs → HeapOrder before xs n → Swapped xs ys 0 m → Rearranged m ys zs → sorted before (take m zs) ≡ rest (sorted before (take n xs))
  popped xs ys zs n m e le h s a =
      let d = head xs (omega arith) in
      sym (ap rest (sorted-least before o (take n xs) (take m zs) (get_or xs 0 d) (left_over xs ys zs n m d e le s a) (subst (λ (x : X). AllByRecursion (λ y. before y x ≡ false) (take n xs)) (get_or-take n xs 0 d (omega arith)) (none_before xs n d le h))))

  pub pushed : (xs zs : List X) (n : ℕ) (x : X) → n < length xs → Rearranged (n + 1) (set xs n x) zs → sorted before (take (n + 1) zs) ≡ insert before x (sorted before (take n xs))
  pushed xs zs n x h a =
      let cut : take (n + 1) (set xs n x) ≡ take n xs ++ x ∷ [] = ap (λ (k : ℕ). take k (set xs n x)) (add-one n) ∙ take-suc-set xs n x h in
      sorted-shuffled before o (take (n + 1) (set xs n x)) (take (n + 1) zs) a.entries ∙ ap (sorted before) cut
      ∙ sym (sorted-shuffled before o (take n xs ++ x ∷ []) (x ∷ take n xs) (IsPermutation-to_front (take n xs) x))
