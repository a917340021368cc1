use Rattle.std.proofs.Common.{◌≡◌, ℕ, zero, suc, ◌+◌, ◌<◌, ◌≤◌, max, Bool, true, false, cond, if◌then◌else◌, ◌&&◌, ◌||◌, List, [], ◌∷◌, map, length, get_or, Some, None, Option, sym, refl, ap, ◌∙◌, subst, arith}
use native.Mathlib.Decide.{ℕ_discrete}
use denote.Param.Members.{Mut}
use denote.Ref.{Bor}
use Rattle.std.specs.declared.ops.Range.{Range}
use Rattle.std.specs.declared.iter.Map.{Map}
use Rattle.std.specs.Array.{IsFromFnResultFrom, IsFromFnResult}
use Rattle.std.specs.Fn.{Called, CalledAt}
use Rattle.std.specs.Iterator.{ChecksAny, ChecksAll, FindsItem, PicksByCmp}
use Rattle.std.specs.Iterator.Adapters.{map_source, map_callee}
use Rattle.std.specs.Option.{MatchOption, unwrap_or}
use Rattle.std.specs.Ordering.{max_by_ordering, nat_cmp}
use Rattle.std.specs.List.{range_with_len, list_any, list_all, fold, filter, reduce}
use Rattle.std.proofs.Math.Bool.{or_assoc, and_assoc}
use Rattle.std.proofs.lemmas.List.FromFn.{length-range_with_len, get_or-range_with_len, fill_by_all}
use Rattle.std.proofs.lemmas.List.Folds.{max_of_map}
use Rattle.std.proofs.lemmas.Bool.{lt-ltb, le-ltb}
use Rattle.std.proofs.iter.Yields.{nat_range_steps}
use Rattle.std.proofs.lemmas.Iterator.{YieldsList-from_range, YieldsList-from_map, first_from_Range, maps}
use Rattle.std.proofs.lemmas.Iterator.Consumers.{reduce_from_yields_List}
use Rattle.std.proofs.lemmas.Iterator.Search.{any_from_yields_List, all_from_yields_List}
use Rattle.model.specs.Range.{top, every, any, lowest}
use Rattle.model.proofs.Range.{top-same, any-same, every-same, first-at, first-none}

-- What chains of iterators make, told by index: over a list, and over the numbers below n.

or-none : (b : Bool) → b ≡ (b || false)
or-none true = refl
or-none false = refl

and-all : (b : Bool) → b ≡ (b && true)
and-all true = refl
and-all false = refl

any-front : (n : ℕ) (f : ℕ → Bool) → any (suc n) f ≡ (f 0 || any n (λ k. f (suc k)))
unfolding any
any-front zero f = or-none (f 0)
any-front (suc n) f = ap (λ b. b || f (suc n)) (any-front n f) ∙ or_assoc (f 0) _ _

pub every-front : (n : ℕ) (f : ℕ → Bool) → every (suc n) f ≡ (f 0 && every n (λ k. f (suc k)))
every-front zero f = and-all (f 0)
every-front (suc n) f = ap (λ b. b && f (suc n)) (every-front n f) ∙ and_assoc (f 0) _ _

top-front : (n : ℕ) (f : ℕ → ℕ) → top (suc n) f ≡ max (f 0) (top n (λ k. f (suc k)))
top-front zero f = omega arith
top-front (suc n) f = omega (arith, top-front n f)

pub any-listed : {A : Type 0} (p : A → Bool) (d : A) (xs : List A) → any (length xs) (λ k. p (get_or xs k d)) ≡ list_any p xs
unfolding any
any-listed p d [] = refl
any-listed p d (x ∷ xs) = any-front (length xs) (λ k. p (get_or (x ∷ xs) k d)) ∙ ap (λ b. p x || b) (any-listed p d xs)

pub every-listed : {A : Type 0} (p : A → Bool) (d : A) (xs : List A) → every (length xs) (λ k. p (get_or xs k d)) ≡ list_all p xs
every-listed p d [] = refl
every-listed p d (x ∷ xs) = every-front (length xs) (λ k. p (get_or (x ∷ xs) k d)) ∙ ap (λ b. p x && b) (every-listed p d xs)

fold-max : {A : Type 0} (h : A → ℕ) (a : ℕ) (xs : List A) → fold (λ b x. max b (h x)) a xs ≡ max a (fold (λ b x. max b (h x)) 0 xs)
fold-max h a [] = omega arith
fold-max h a (x ∷ xs) = omega (arith, fold-max h (max a (h x)) xs, fold-max h (max 0 (h x)) xs)

pub top-listed : {A : Type 0} (h : A → ℕ) (d : A) (xs : List A) → top (length xs) (λ k. h (get_or xs k d)) ≡ fold (λ b x. max b (h x)) 0 xs
top-listed h d [] = refl
top-listed h d (x ∷ xs) = omega (arith, top-front (length xs) (λ k. h (get_or (x ∷ xs) k d)), top-listed h d xs, fold-max h (max 0 (h x)) xs)

-- what a test lets through counts, the rest counts 0
pub fold-filtered : {A : Type 0} (p : A → Bool) (h : A → ℕ) (a : ℕ) (xs : List A) → fold (λ b x. max b (h x)) a (filter p xs) ≡ fold (λ b x. max b (cond (p x) (h x) 0)) a xs
fold-filtered p h a [] = refl
fold-filtered p h a (x ∷ xs) = go (p x) (λ b. fold-filtered p h b xs)
  where
    go : (b : Bool) → ((c : ℕ) → fold (λ b x. max b (h x)) c (filter p xs) ≡ fold (λ b x. max b (cond (p x) (h x) 0)) c xs)
        → fold (λ b x. max b (h x)) a (cond b (x ∷ filter p xs) (filter p xs)) ≡ fold (λ b x. max b (cond (p x) (h x) 0)) (max a (cond b (h x) 0)) xs
    go true ih = ih (max a (h x))
    go false ih = let z : max a 0 ≡ a = omega arith in rw z (ih a)

range-at : (n k : ℕ) → k < n → k ≡ get_or (range_with_len 0 n) k 0
range-at n k l = omega (arith, get_or-range_with_len 0 n k 0 l)

pub any-ranged : (n : ℕ) (p : ℕ → Bool) → any n p ≡ list_any p (range_with_len 0 n)
any-ranged n p = any-same n p (λ k. p (get_or (range_with_len 0 n) k 0)) (λ k l. ap p (range-at n k l))
    ∙ ap (λ m. any m (λ k. p (get_or (range_with_len 0 n) k 0))) (sym (length-range_with_len 0 n)) ∙ any-listed p 0 (range_with_len 0 n)

pub every-ranged : (n : ℕ) (p : ℕ → Bool) → every n p ≡ list_all p (range_with_len 0 n)
every-ranged n p = every-same n p (λ k. p (get_or (range_with_len 0 n) k 0)) (λ k l. ap p (range-at n k l))
    ∙ ap (λ m. every m (λ k. p (get_or (range_with_len 0 n) k 0))) (sym (length-range_with_len 0 n)) ∙ every-listed p 0 (range_with_len 0 n)

pub top-ranged : (n : ℕ) (h : ℕ → ℕ) → top n h ≡ fold (λ b x. max b (h x)) 0 (range_with_len 0 n)
top-ranged n h = top-same n h (λ k. h (get_or (range_with_len 0 n) k 0)) (λ k l. ap h (range-at n k l))
    ∙ ap (λ m. top m (λ k. h (get_or (range_with_len 0 n) k 0))) (sym (length-range_with_len 0 n)) ∙ top-listed h 0 (range_with_len 0 n)

-- what `find` answers in the numbers below n
pub lowest-found : (n : ℕ) (p : ℕ → Bool) (r : Option ℕ) → MatchOption r ((k : ℕ) → 0 ≤ k → k < n → p k ≡ false) (λ i. (0 ≤ i) × (i < n) × (p i ≡ true) × ((k : ℕ) → 0 ≤ k → k < i → p k ≡ false)) → r ≡ lowest n p
lowest-found n p None h = rw (sym (first-none n p (λ j l. h j (omega arith) l)), le-ltb n n (omega arith)) refl
lowest-found n p (Some i) h = rw (sym (first-at n i p h.1 h.2 (λ j l. h.3 j (omega arith) l)), lt-ltb i n h.1) refl

-- What is answered over the numbers below n, m of them as the code counts.

-- the numbers from 0 up to n
abbrev pub below : ℕ → Range ℕ
below n = record { start = 0; end = n }

-- what `any` answers over the numbers below n, where each call answers p
pub any-below : {F : Type 0} {g : Mut F (ℕ × Unit {0}) Bool} (n m : ℕ) (p : ℕ → Bool) (u : Range ℕ) (f : F) (r : Bool)
    → m ≡ n → ChecksAny nat_range_steps g (below m) f r u → ((x : ℕ) (b : Bool) (q : F) → Called g f (x, tt) b q → (q ≡ f) × (b ≡ p x)) → r ≡ any n p
any-below n m p u f r e d k = any_from_yields_List p u f r d (YieldsList-from_range 0 m n refl (omega arith)) k ∙ sym (any-ranged n p)

-- what `all` answers
pub every-below : {F : Type 0} {g : Mut F (ℕ × Unit {0}) Bool} (n m : ℕ) (p : ℕ → Bool) (u : Range ℕ) (f : F) (r : Bool)
    → m ≡ n → ChecksAll nat_range_steps g (below m) f r u → ((x : ℕ) (b : Bool) (q : F) → Called g f (x, tt) b q → (q ≡ f) × (b ≡ p x)) → r ≡ every n p
every-below n m p u f r e d k = all_from_yields_List p u f r d (YieldsList-from_range 0 m n refl (omega arith)) k ∙ sym (every-ranged n p)

-- what `find` answers
pub lowest-below : {F : Type 0} {g : Mut F (Bor ℕ × Unit {0}) Bool} (n m : ℕ) (p : ℕ → Bool) (u : Range ℕ) (f : F) (r : Option ℕ)
    → m ≡ n → FindsItem nat_range_steps g (below m) f r u → ((x : ℕ) (b : Bool) (q : F) → CalledAt g f x b q → (q ≡ f) × (b ≡ p x)) → r ≡ lowest n p
lowest-below n m p u f r e d k =
    lowest-found m p r (first_from_Range (below m) u f r (λ i. p i ≡ true) (λ i. p i ≡ false) d
    (λ x q c. sym (k x true q c).1)
    (λ x q c. let z = k x false q c in (z.0, sym z.1)))
    ∙ ap (λ i. lowest i p) e

-- what `map`, then `max`, then `unwrap_or(0)` answer
pub top-below : {F : Type 0} {g : Mut F (ℕ × Unit {0}) ℕ} (n m : ℕ) (h : ℕ → ℕ) (s : Map (Range ℕ) F) (f : F) (r : Option ℕ)
    → m ≡ n → PicksByCmp (maps nat_range_steps g) max_by_ordering nat_cmp s r → map_source s ≡ below m → map_callee s ≡ f
    → ((x : ℕ) (b : ℕ) (q : F) → Called g f (x, tt) b q → (q ≡ f) × (b ≡ h x)) → unwrap_or r 0 ≡ top n h
top-below {F} {g} n m h s f r e d from with_f k =
    ap (λ (o : Option ℕ). unwrap_or o 0)
    (reduce_from_yields_List (λ a b. max_by_ordering (nat_cmp a b) a b) s r d (YieldsList-from_map g h {f = f} (YieldsList-from_range 0 m n from (omega arith)) with_f k))
    ∙ max_of_map h (range_with_len 0 n) ∙ sym (top-ranged n h)

-- what `from_fn` makes, where each call answers h
pub made-at : {F B : Type 0} {g : Mut F (ℕ × Unit {0}) B} (h : ℕ → B) (f : F) → ((x : ℕ) (r : B) (q : F) → Called g f (x, tt) r q → (q ≡ f) × (r ≡ h x))
    → (ys : List B) (i n : ℕ) → IsFromFnResultFrom g f ys i n → (k : ℕ) (d : B) → i ≤ k → k < i + n → get_or ys k d ≡ h k
made-at h f pure ys i zero made k d low high = absurd (omega arith)
made-at {g = g} h f pure ys i (suc n) made k d low high =
    let now = pure i made.1 made.0 made.3 in
    elim (ℕ_discrete k i) [
      | yes e ↦ rw e (made.2.1 d ∙ now.1)
      | no ne ↦ made-at h f pure ys (i + 1) n (subst (λ q. IsFromFnResultFrom g q ys (i + 1) n) now.0 made.4) k d (omega arith) (omega arith)
    ]

-- the whole array that `from_fn` makes
pub array_from_fn : {F B : Type 0} {g : Mut F (ℕ × Unit {0}) B} {f : F} {ys : List B} {n : ℕ} (h : ℕ → B) (d : B) → IsFromFnResult g f ys n
    → ((i : ℕ) (y : B) (q : F) → Called g f (i, tt) y q → (q ≡ f) × (y ≡ h i)) → ys ≡ map h (range_with_len 0 n)
array_from_fn {f = f} {ys = ys} {n = n} h d made pure = fill_by_all h ys n d made.long (λ k l. made-at h f pure ys 0 n made.each k d (omega arith) (omega arith))

-- what `filter`, then `map`, then `max`, then `unwrap_or(0)` answer
pub most-kept : {A : Type 0} (p : A → Bool) (h : A → ℕ) (xs : List A) (r : Option ℕ) → r ≡ reduce (λ a b. max_by_ordering (nat_cmp a b) a b) (map h (filter p xs))
    → unwrap_or r 0 ≡ fold (λ b x. max b (if p x then h x else 0)) 0 xs
most-kept p h xs r e = ap (λ (o : Option ℕ). unwrap_or o 0) e ∙ max_of_map h (filter p xs) ∙ fold-filtered p h 0 xs
