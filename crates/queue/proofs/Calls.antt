use Rattle.std.proofs.Common.{◌≡◌, ℕ, nat_lt, length, Bool, true, false, cond, List, [], ◌∷◌, Some, Option, sym, refl, ap, ◌∙◌, subst, arith}
use Rattle.std.specs.List.Sorted.{IsPermutation}
use Rattle.std.specs.List.{AllByRecursion}
use Rattle.std.proofs.ByRecursion.{All-weaker}
use Rattle.std.proofs.lemmas.List.Sorted.{IsPermutation-refl}
use Rattle.bag.specs.Order.{Total}
use Rattle.bag.specs.Bag.{insert, first, rest, InOrder}
use Rattle.queue.specs.Heaps.{slots_of, bag_of}
use Rattle.queue.specs.declared.heap.Heap.{Heap}
use Rattle.bag.proofs.Bags.{length-bag, insert-adds, first-least}
use Rattle.queue.specs.Bags.{Shows, Takes}

module _ {X : Type 0} (before : X → X → Bool) where
  -- a heap has as many entries as its bag
  pub counted : (h : Heap X) → h.count ≡ length (bag_of before h)
  counted h = sym (length-bag before (slots_of h) h.count h.within)

  -- so a bag has room for one more where the slots are not all in use
  pub has_room : (h : Heap X) (r : Bool) → r ≡ nat_lt h.count (length (slots_of h)) → r ≡ nat_lt (length (bag_of before h)) (length (slots_of h))
  has_room h r is = is ∙ ap (λ (n : ℕ). nat_lt n (length (slots_of h))) (counted h)

  -- what is put is added
  pub adds : (e : X) (b c : List X) (r : Bool) → c ≡ cond r (insert before e b) b → r ≡ true → IsPermutation (e ∷ b) c
  adds e b c r is t = subst (IsPermutation (e ∷ b)) (sym (is ∙ ap (λ (s : Bool). cond s (insert before e b) b) t)) (insert-adds before e b)

-- what the equations of look and take mean, for an order whose test says what `Leads` says in words
module _ {X : Type 0} (before : X → X → Bool) (o : Total before) (Leads : X → X → Type 0) (words : (x y : X) → before y x ≡ false → Leads x y) where
  leading : (x : X) (b : List X) → first b ≡ Some x → InOrder before b → AllByRecursion (Leads x) b
  leading x b e h = All-weaker (λ y. before y x ≡ false) (Leads x) (λ y p. words x y p) b (first-least before o x b e h)

  pub shows : (b : List X) (r : Option X) → r ≡ first b → InOrder before b → Shows Leads b r
  shows b r e h = subst (Shows Leads b) (sym e) (first-shown b h)
    where
      first-shown : (b : List X) → InOrder before b → Shows Leads b (first b)
      first-shown [] h = refl
      first-shown (x ∷ xs) h = ((0, omega arith, λ _. refl), leading x (x ∷ xs) refl h)

  pub takes : (b c : List X) (r : Option X) → r ≡ first b → c ≡ rest b → InOrder before b → Takes Leads b r c
  takes b c r e f h = subst (λ (s : Option X). Takes Leads b s c) (sym e) (subst (Takes Leads b (first b)) (sym f) (first_taken b h))
    where
      first_taken : (b : List X) → InOrder before b → Takes Leads b (first b) (rest b)
      first_taken [] h = (refl, refl)
      first_taken (x ∷ xs) h = (IsPermutation-refl (x ∷ xs), leading x (x ∷ xs) refl h)
