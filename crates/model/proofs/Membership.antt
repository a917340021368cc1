use Rattle.std.proofs.Common.{◌≡◌, ℕ, zero, suc, ◌<◌, Bool, true, false, cond, ◌⊎◌, List, [], ◌∷◌, map, get_or, sym, refl, ap, ◌∙◌, subst, inl, inr, ⊎_elim, arith}
use Rattle.std.specs.List.{range_with_len, filter, flat_map, Contains}
use Rattle.std.proofs.lemmas.List.FromFn.{length-range_with_len, get_or-range_with_len}
use Rattle.std.proofs.lemmas.List.{length-map, get_or-map}
use Rattle.std.proofs.lemmas.List.Elements.{All-map, All-filter, All-contains, All-contains_itself, filter_passes, Contains-get_or, Contains-append_left, Contains-append_right, Contains-append_cases}
use Rattle.model.specs.Children.{passing}

-- What lies in a list: in a part of it that passes a test, in what a function makes of it, in a range.

module _ {X : Type 0} where
  pub contains-first : (x : X) (xs : List X) → Contains (x ∷ xs) x
  contains-first x xs = (0, omega arith, refl)

  pub contains-later : (y : X) (xs : List X) (x : X) → Contains xs x → Contains (y ∷ xs) x
  contains-later y xs x c = (suc c.0, omega (arith, c.1), c.2)

  pub contains-cases : (y : X) (xs : List X) (x : X) → Contains (y ∷ xs) x → (y ≡ x) ⊎ Contains xs x
  contains-cases y xs x (zero, h, e) = inl e
  contains-cases y xs x (suc k, h, e) = inr (k, omega (arith, h), e)

  contains-none : {A : Type 0} (x : X) → Contains [] x → A
  contains-none x c = absurd (omega (arith, c.1))

  pub contains-filter : (p : X → Bool) (xs : List X) (x : X) → Contains xs x → p x ≡ true → Contains (filter p xs) x
  contains-filter p [] x c e = contains-none x c
  contains-filter p (y ∷ xs) x c e = go (p y) refl (λ d. contains-filter p xs x d e) (contains-cases y xs x c)
    where
      go : (b : Bool) → p y ≡ b → (Contains xs x → Contains (filter p xs) x) → (y ≡ x) ⊎ Contains xs x → Contains (cond b (y ∷ filter p xs) (filter p xs)) x
      go true q ih (inl z) = subst (λ v. Contains (v ∷ filter p xs) x) (sym z) (contains-first x (filter p xs))
      go true q ih (inr d) = contains-later y (filter p xs) x (ih d)
      go false q ih (inl z) = absurd (let w : ◌≡◌ {A = Bool} true false = sym e ∙ sym (ap p z) ∙ q in let v : ◌≡◌ {A = ℕ} 0 1 = cc in omega arith)
      go false q ih (inr d) = ih d

  pub filter-contains : (p : X → Bool) (xs : List X) (x : X) → Contains (filter p xs) x → Contains xs x × (p x ≡ true)
  filter-contains p xs x c = (
    All-contains (Contains xs) (filter p xs) x (All-filter p (Contains xs) xs (All-contains_itself xs)) c,
    All-contains (λ y. p y ≡ true) (filter p xs) x (filter_passes p xs) c,
  )

module _ {X Y : Type 0} where
  pub contains-map : (f : X → Y) (xs : List X) (x : X) → Contains xs x → Contains (map f xs) (f x)
  contains-map f xs x c = (c.0, omega (arith, c.1, length-map xs f), get_or-map f xs c.0 x (f x) c.1 ∙ ap f c.2)

  pub map-contains : (f : X → Y) (xs : List X) (y : Y) → Contains (map f xs) y → (x : X) × Contains xs x × (f x ≡ y)
  map-contains f xs y c = All-contains Made (map f xs) y (All-map Made f xs (λ k d l. (get_or xs k d, Contains-get_or xs k d l, refl))) c
    where
      Made : Y → Type 0
      Made v = (x : X) × Contains xs x × (f x ≡ v)

  pub contains-flat_map : (f : X → List Y) (xs : List X) (x : X) (y : Y) → Contains xs x → Contains (f x) y → Contains (flat_map f xs) y
  contains-flat_map f [] x y c d = contains-none x c
  contains-flat_map f (z ∷ xs) x y c d = ⊎_elim
      (λ e. Contains-append_left (f z) (flat_map f xs) y (subst (λ v. Contains (f v) y) (sym e) d))
      (λ r. Contains-append_right (f z) (flat_map f xs) y (contains-flat_map f xs x y r d))
      (contains-cases z xs x c)

  pub flat_map-contains : (f : X → List Y) (xs : List X) (y : Y) → Contains (flat_map f xs) y → (x : X) × Contains xs x × Contains (f x) y
  flat_map-contains f [] y c = contains-none y c
  flat_map-contains f (x ∷ xs) y c = ⊎_elim
      (λ d. (x, contains-first x xs, d))
      (λ d. let r = flat_map-contains f xs y d in (r.0, contains-later x xs r.0 r.1, r.2))
      (Contains-append_cases (f x) (flat_map f xs) y c)

contains-range : (n k : ℕ) → k < n → Contains (range_with_len 0 n) k
contains-range n k h = (k, omega (arith, length-range_with_len 0 n), omega (arith, get_or-range_with_len 0 n k k h))

range-contains : (n k : ℕ) → Contains (range_with_len 0 n) k → k < n
range-contains n k c = let l : c.0 < n = omega (arith, c.1, length-range_with_len 0 n) in omega (arith, c.2, get_or-range_with_len 0 n c.0 k l)

pub contains-passing : (n : ℕ) (f : ℕ → Bool) (k : ℕ) → k < n → f k ≡ true → Contains (passing n f) k
contains-passing n f k h e = contains-filter f (range_with_len 0 n) k (contains-range n k h) e

pub passing-contains : (n : ℕ) (f : ℕ → Bool) (k : ℕ) → Contains (passing n f) k → (k < n) × (f k ≡ true)
passing-contains n f k c = let d = filter-contains f (range_with_len 0 n) k c in (range-contains n k d.0, d.1)
