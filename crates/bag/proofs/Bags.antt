use Rattle.std.proofs.Common.{◌≡◌, ℕ, zero, suc, ◌<◌, ◌≤◌, Bool, true, false, cond, List, [], ◌∷◌, length, get_or, take, set, Some, sym, refl, ap, ◌∙◌, subst, le_of_suc-le-suc, not-suc-le-zero, arith, length-set, length-take-le, get_or-set_other, get_or-set_same}
use Rattle.std.specs.List.Sorted.{IsPermutation}
use Rattle.std.specs.List.{AllByRecursion}
use native.Mathlib.Decide.{ℕ_discrete}
use borrow.Author.Clash.{clash}
use Rattle.std.proofs.Props.{props}
use Rattle.std.proofs.ByRecursion.{All-weaker, All-from_get_or, All-get_or, all_shuffled}
use Rattle.std.proofs.lemmas.List.Edits.{swap_is}
use Rattle.std.proofs.lemmas.List.Sorted.{IsPermutation-refl, IsPermutation-trans, IsPermutation-cons, IsPermutation-swap, IsPermutation-keeps}
use Rattle.bag.specs.Order.{Total}
use Rattle.bag.specs.Bag.{insert, sorted, first, rest, InOrder}

pub head : {X : Type 0} (l : List X) → 0 < length l → X
head [] h = absurd (not-suc-le-zero h)
head (x ∷ xs) h = x

-- a bag with a first entry has entries
pub first-some : {X : Type 0} (l : List X) (x : X) → Some x ≡ first l → 0 < length l
first-some [] x e = cc
first-some (y ∷ ys) x e = omega arith

-- that a list is in order is a fact with one proof
pub in-order-prop : {X : Type 0} (before : X → X → Bool) (l : List X) → IsProp (InOrder before l)
in-order-prop before [] = hlevel
in-order-prop before (x ∷ xs) = hlevel (props, in-order-prop before xs)

-- a bag has as many entries as the list that it is of
module _ {X : Type 0} (before : X → X → Bool) where
  pub length-insert : (a : X) (l : List X) → length (insert before a l) ≡ suc (length l)
  length-insert a [] = refl
  length-insert a (x ∷ xs) = by-test (length-insert a xs) (before x a) refl
    where
      by-test : length (insert before a xs) ≡ suc (length xs) → (s : Bool) → before x a ≡ s → length (insert before a (x ∷ xs)) ≡ suc (length (x ∷ xs))
      by-test ih true p = simp p (ap suc ih)
      by-test ih false p = simp p

  length-sorted : (l : List X) → length (sorted before l) ≡ length l
  length-sorted [] = refl
  length-sorted (x ∷ xs) = length-insert x (sorted before xs) ∙ ap suc (length-sorted xs)

  pub length-bag : (xs : List X) (n : ℕ) → n ≤ length xs → length (sorted before (take n xs)) ≡ n
  length-bag xs n h = length-sorted (take n xs) ∙ length-take-le n xs h

  -- what is added is added, and the others stay
  pub insert-adds : (a : X) (l : List X) → IsPermutation (a ∷ l) (insert before a l)
  insert-adds a [] = IsPermutation-refl (a ∷ [])
  insert-adds a (x ∷ xs) = by-test (insert-adds a xs) (before x a) refl
    where
      by-test : IsPermutation (a ∷ xs) (insert before a xs) → (s : Bool) → before x a ≡ s → IsPermutation (a ∷ x ∷ xs) (insert before a (x ∷ xs))
      by-test ih false p = simp p (IsPermutation-refl (a ∷ x ∷ xs))
      by-test ih true p = simp p (IsPermutation-trans (a ∷ x ∷ xs) (x ∷ a ∷ xs) (x ∷ insert before a xs)
          (IsPermutation-swap (a ∷ x ∷ xs) (x ∷ a ∷ xs) 0 1 (omega arith) (omega arith) refl)
          (IsPermutation-cons x (a ∷ xs) (insert before a xs) ih))

module _ {X : Type 0} (before : X → X → Bool) (o : Total before) where
  pub irreflexive : (x : X) → before x x ≡ false
  irreflexive x = by-test (before x x) refl
    where
      by-test : (b : Bool) → before x x ≡ b → before x x ≡ false
      by-test true e = o.asymmetric x x e
      by-test false e = e

  two : (a b : X) (q : List X) (s t : Bool) → before a b ≡ s → before b a ≡ t → cond (before b a) (b ∷ a ∷ q) (a ∷ b ∷ q) ≡ cond (before a b) (a ∷ b ∷ q) (b ∷ a ∷ q)
  two a b q true t p r = let h : before b a ≡ false = o.asymmetric a b p in simp (p, h)
  two a b q false true p r = simp (p, r)
  two a b q false false p r = let e : a ≡ b = o.tied a b p r in simp (p, r) (cc)

  between : (x a b : X) (s : Bool) → before b a ≡ s → before x a ≡ true → before x b ≡ false → before b a ≡ true
  between x a b true e p q = e
  between x a b false e p q = clash (before x a) p (o.transitive x b a q e)

  pub insert_comm : (a b : X) (l : List X) → insert before a (insert before b l) ≡ insert before b (insert before a l)
  insert_comm a b [] = two a b [] (before a b) (before b a) refl refl
  insert_comm a b (x ∷ xs) = by_tests (insert_comm a b xs) (before x a) (before x b) refl refl
    where
      by_tests : insert before a (insert before b xs) ≡ insert before b (insert before a xs) → (s t : Bool) → before x a ≡ s → before x b ≡ t → insert before a (insert before b (x ∷ xs)) ≡ insert before b (insert before a (x ∷ xs))
      by_tests ih true true p q = simp (p, q) (ap (λ (l : List X). x ∷ l) ih)
      by_tests ih true false p q = let h = between x a b (before b a) refl p q in simp (p, q, h)
      by_tests ih false true p q = let h = between x b a (before a b) refl q p in simp (p, q, h)
      by_tests ih false false p q = simp (p, q) (two a b (x ∷ xs) (before a b) (before b a) refl refl)

  insert_inj : (a : X) (l m : List X) → insert before a l ≡ insert before a m → l ≡ m
  insert_inj a [] [] e = refl
  insert_inj a [] (y ∷ ys) e = absurd (omega (arith, ap length e, length-insert before a (y ∷ ys)))
  insert_inj a (x ∷ xs) [] e = absurd (omega (arith, ap length e, length-insert before a (x ∷ xs)))
  insert_inj a (x ∷ xs) (y ∷ ys) e = by_tests (insert_inj a xs ys) (before x a) (before y a) refl refl
    where
      same : (z : X) → z ≡ a → before z a ≡ false
      same z u = ap (λ w. before w a) u ∙ irreflexive a

      by_tests : (insert before a xs ≡ insert before a ys → xs ≡ ys) → (s t : Bool) → before x a ≡ s → before y a ≡ t → x ∷ xs ≡ y ∷ ys
      by_tests ih true true p q =
          let f = simp (p, q) at e in
          let u : x ≡ y = cc in
          let h : insert before a xs ≡ insert before a ys = cc in
          let t = ih h in cc
      by_tests ih true false p q = let f = simp (p, q) at e in let u : x ≡ a = cc in clash (before x a) p (same x u)
      by_tests ih false true p q = let f = simp (p, q) at e in let u : y ≡ a = cc in clash (before y a) q (same y u)
      by_tests ih false false p q = let f = simp (p, q) at e in cc

  sorted-set : (l : List X) (i : ℕ) (v d : X) → i < length l → insert before (get_or l i d) (sorted before (set l i v)) ≡ insert before v (sorted before l)
  sorted-set [] i v d h = absurd (not-suc-le-zero h)
  sorted-set (x ∷ xs) zero v d h = insert_comm x v (sorted before xs)
  sorted-set (x ∷ xs) (suc i) v d h = insert_comm (get_or xs i d) x (sorted before (set xs i v)) ∙ ap (insert before x) (sorted-set xs i v d (le_of_suc-le-suc h)) ∙ insert_comm x v (sorted before xs)

  sorted-swap : (l : List X) (i j : ℕ) (d : X) → i < length l → j < length l → sorted before (set (set l i (get_or l j d)) j (get_or l i d)) ≡ sorted before l
  sorted-swap l i j d p q =
      let a = get_or l i d in
      let b = get_or l j d in
      let w = set l i b in
      let is : get_or w j d ≡ b = elim (ℕ_discrete i j) [ yes e ↦ ap (λ (m : ℕ). get_or w m d) (sym e) ∙ get_or-set_same l i b d p | no n ↦ get_or-set_other l i j b d (λ e. n (sym e)) ] in
      insert_inj b (sorted before (set w j a)) (sorted before l)
      (ap (λ z. insert before z (sorted before (set w j a))) (sym is) ∙ sorted-set w j a d (omega (arith, length-set l i b)) ∙ sorted-set l i b d p)

  -- the order in which entries come does not matter to the bag
  pub sorted-shuffled : (xs ys : List X) → IsPermutation xs ys → sorted before ys ≡ sorted before xs
  sorted-shuffled xs ys s = IsPermutation-keeps xs (λ l. sorted before l ≡ sorted before xs) refl
      (λ l i j p q h. let d = head l (omega arith) in ap (sorted before) (sym (swap_is l i j d p q)) ∙ sorted-swap l i j d p q ∙ h) ys s

  pub front : (a : X) (l : List X) → AllByRecursion (λ y. before y a ≡ false) l → insert before a l ≡ a ∷ l
  front a [] h = refl
  front a (x ∷ xs) h = let p = h.0 in simp p

  sorted-shuffles : (l : List X) → IsPermutation l (sorted before l)
  sorted-shuffles [] = IsPermutation-refl []
  sorted-shuffles (x ∷ xs) = IsPermutation-trans (x ∷ xs) (x ∷ sorted before xs) (sorted before (x ∷ xs)) (IsPermutation-cons x xs (sorted before xs) (sorted-shuffles xs)) (insert-adds before x (sorted before xs))

  -- an entry that none comes before is the first of the bag
  pub sorted-least : (xs ys : List X) (x : X) → IsPermutation xs (x ∷ ys) → AllByRecursion (λ y. before y x ≡ false) xs → sorted before xs ≡ x ∷ sorted before ys
  sorted-least xs ys x s h =
      let a = all_shuffled (λ y. before y x ≡ false) xs (x ∷ ys) s h in
      sym (sorted-shuffled xs (x ∷ ys) s) ∙ front x (sorted before ys) (all_shuffled (λ y. before y x ≡ false) ys (sorted before ys) (sorted-shuffles ys) a.1)

  -- bags are in order
  pub insert-in-order : (a : X) (l : List X) → InOrder before l → InOrder before (insert before a l)
  insert-in-order a [] h = (tt, tt)
  insert-in-order a (x ∷ xs) h = by-test (insert-in-order a xs h.1) (before x a) refl
    where
      by-test : InOrder before (insert before a xs) → (s : Bool) → before x a ≡ s → InOrder before (insert before a (x ∷ xs))
      by-test ih true p = simp p (all_shuffled (λ y. before y x ≡ false) (a ∷ xs) (insert before a xs) (insert-adds before a xs) (o.asymmetric x a p, h.0), ih)
      by-test ih false p = simp p ((refl, All-weaker (λ y. before y x ≡ false) (λ y. before y a ≡ false) (λ y q. o.transitive y x a q p) xs h.0), h)

  pub sorted-in-order : (l : List X) → InOrder before (sorted before l)
  sorted-in-order [] = tt
  sorted-in-order (x ∷ xs) = insert-in-order x (sorted before xs) (sorted-in-order xs)

  pub put-in-order : (a : X) (l m : List X) (r : Bool) → m ≡ cond r (insert before a l) l → InOrder before l → InOrder before m
  put-in-order a l m true e h = subst (InOrder before) (sym e) (insert-in-order a l h)
  put-in-order a l m false e h = subst (InOrder before) (sym e) h

  pub rest-in-order : (l : List X) → InOrder before l → InOrder before (rest l)
  rest-in-order [] h = tt
  rest-in-order (x ∷ xs) h = h.1

  -- none comes before the first
  pub first-least : (x : X) (l : List X) → first l ≡ Some x → InOrder before l → AllByRecursion (λ y. before y x ≡ false) l
  first-least x [] e h = tt
  first-least x (y ∷ ys) e h = let u : y ≡ x = cc in subst (λ z. AllByRecursion (λ w. before w z ≡ false) (y ∷ ys)) u (irreflexive y, h.0)

  -- in order, place by place
  abbrev ByPlaces : List X → X → Type 0
  ByPlaces l d = (i j : ℕ) → (i < j) × (j < length l) → before (get_or l j d) (get_or l i d) ≡ false

  pub in-order-by-places : (l : List X) (d : X) → ByPlaces l d → InOrder before l
  in-order-by-places [] d h = tt
  in-order-by-places (x ∷ xs) d h = (
    All-from_get_or (λ y. before y x ≡ false) xs d (λ k p. h 0 (suc k) (omega arith, omega arith)),
    in-order-by-places xs d (λ i j p. h (suc i) (suc j) (omega (arith, p.0), omega (arith, p.1))),
  )

  pub places-in-order : (l : List X) (d : X) → InOrder before l → ByPlaces l d
  places-in-order [] d h i j p = absurd (omega (arith, p.1))
  places-in-order (x ∷ xs) d h i zero p = absurd (omega (arith, p.0))
  places-in-order (x ∷ xs) d h zero (suc j) p = All-get_or (λ y. before y x ≡ false) xs j d (omega (arith, p.1)) h.0
  places-in-order (x ∷ xs) d h (suc i) (suc j) p = places-in-order xs d h.1 i j (omega (arith, p.0), omega (arith, p.1))
