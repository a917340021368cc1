use Rattle.std.proofs.Common.{◌≡◌, ℕ, zero, suc, ◌+◌, ◌<◌, ◌≤◌, max, Bool, true, false, cond, ◌&&◌, ◌||◌, ltb, ◌≢◌, sym, refl, ap, ◌∙◌, add-one, arith}
use native.Mathlib.Decide.{ℕ_discrete, dec_lt}
use borrow.Author.Clash.{clash}
use Rattle.std.proofs.lemmas.Bool.{eq-eqb, ne_eqb, lt-ltb, le-ltb, and_parts, and_right, or_right}
use Rattle.model.specs.Range.{top, every, any, first, least, put}

pub le-top : (n : ℕ) (f : ℕ → ℕ) (k : ℕ) → k < n → f k ≤ top n f
le-top zero f k h = absurd (omega arith)
le-top (suc n) f k h =
    elim (ℕ_discrete k n) [
      | yes e ↦ let e2 : f k ≡ f n = ap f e in omega arith
      | no ne ↦ omega (arith, le-top n f k (omega arith))
    ]

pub top-le : (n : ℕ) (f : ℕ → ℕ) (y : ℕ) → ((k : ℕ) → k < n → f k ≤ y) → top n f ≤ y
top-le zero f y h = omega arith
top-le (suc n) f y h = omega (arith, h n (omega arith), top-le n f y (λ k l. h k (omega arith)))

pub least-le : (n : ℕ) (f : ℕ → ℕ) (k : ℕ) → k < n → least n f ≤ f k
least-le zero f k h = absurd (omega arith)
least-le (suc n) f k h = elim (ℕ_discrete k n) [
  | yes e ↦ let same : f k ≡ f n = ap f e in omega arith
  | no ne ↦ omega (arith, least-le n f k (omega arith))
]

-- a term that counts only under a test
pub cond-le : (b : Bool) (x y : ℕ) → (b ≡ true → x ≤ y) → cond b x 0 ≤ y
cond-le true x y h = h refl
cond-le false x y h = omega arith

pub put_same : {A : Type 0} (f : ℕ → A) (t : ℕ) (v : A) (u : ℕ) → u ≡ t → put f t v u ≡ v
put_same f t v u e = rw (eq-eqb u t e)

pub put_other : {A : Type 0} (f : ℕ → A) (t : ℕ) (v : A) (u : ℕ) → u ≢ t → put f t v u ≡ f u
put_other f t v u ne = rw (ne_eqb u t ne)

-- one number more
pub top-more : (n : ℕ) (f : ℕ → ℕ) → top (n + 1) f ≡ max (top n f) (f n)
top-more n f = rw add-one

pub every_more : (n : ℕ) (f : ℕ → Bool) → every (n + 1) f ≡ (every n f && f n)
every_more n f = rw add-one

pub top-same : (n : ℕ) (f h : ℕ → ℕ) → ((k : ℕ) → k < n → f k ≡ h k) → top n f ≡ top n h
top-same zero f h e = refl
top-same (suc n) f h e = omega (arith, e n (omega arith), top-same n f h (λ k l. e k (omega arith)))

-- every decides
pub every-all : (n : ℕ) (f : ℕ → Bool) → every n f ≡ true → (k : ℕ) → k < n → f k ≡ true
every-all zero f e k h = absurd (omega arith)
every-all (suc n) f e k h = elim (ℕ_discrete k n) [ yes q ↦ ap f q ∙ (and_parts (every n f) (f n) e).1 | no q ↦ every-all n f (and_parts _ _ e).0 k (omega arith) ]

pub every-from : (n : ℕ) (f : ℕ → Bool) → ((k : ℕ) → k < n → f k ≡ true) → every n f ≡ true
every-from zero f h = refl
every-from (suc n) f h = rw (every-from n f (λ k l. h k (omega arith)), h n (omega arith))

pub every-off : (n k : ℕ) (f : ℕ → Bool) → k < n → f k ≡ false → every n f ≡ false
every-off zero k f h e = absurd (omega arith)
every-off (suc n) k f h e = elim (ℕ_discrete k n) [
  | yes q ↦ let z : f n ≡ false = sym (ap f q) ∙ e in and_right (every n f) (f n) z
  | no ne ↦ rw (every-off n k f (omega arith) e)
]

pub any-on : (n k : ℕ) (f : ℕ → Bool) → k < n → f k ≡ true → any n f ≡ true
unfolding any
any-on zero k f h e = absurd (omega arith)
any-on (suc n) k f h e = elim (ℕ_discrete k n) [
  | yes q ↦ let z : f n ≡ true = sym (ap f q) ∙ e in or_right (any n f) (f n) z
  | no ne ↦ rw (any-on n k f (omega arith) e)
]

pub any-off : (n : ℕ) (f : ℕ → Bool) → ((k : ℕ) → k < n → f k ≡ false) → any n f ≡ false
unfolding any
any-off zero f h = refl
any-off (suc n) f h = rw (any-off n f (λ k l. h k (omega arith)), h n (omega arith))

pub any-has : (n : ℕ) (f : ℕ → Bool) → any n f ≡ true → (k : ℕ) × (k < n) × (f k ≡ true)
unfolding any
any-has zero f e = clash false e refl
any-has (suc n) f e = go (any n f) refl (f n) refl (any-has n f)
  where
    go : (a : Bool) → any n f ≡ a → (b : Bool) → f n ≡ b → (any n f ≡ true → (k : ℕ) × (k < n) × (f k ≡ true)) → (k : ℕ) × (k < suc n) × (f k ≡ true)
    go true p b q ih = let x = ih p in (x.0, omega (arith, x.1), x.2)
    go false p true q ih = (n, omega arith, q)
    go false p false q ih = clash (any n f || f n) e (rw (p, q))

-- what the lowest is: all before it fail, and it passes, or there is none
abbrev pub First : ℕ → (ℕ → Bool) → ℕ → Type 0
First n f t = (t ≤ n) × ((k : ℕ) → k < t → f k ≡ false) × (t < n → f t ≡ true)

pub first-is : (n : ℕ) (f : ℕ → Bool) → First n f (first n f)
unfolding first
first-is zero f = (omega arith, (λ k h. absurd (omega arith)), λ h. absurd (omega arith))
first-is (suc n) f = go (first n f) (first-is n f) (f n) refl
  where
    go : (t : ℕ) → First n f t → (b : Bool) → f n ≡ b → First (suc n) f (cond (ltb t n) t (cond (f n) n (suc n)))
    go t x b e = elim (dec_lt t n) [
      | yes l ↦ rw (lt-ltb t n l) (omega arith, x.1, λ h. x.2 l)
      | no l ↦ rw (le-ltb t n (omega (arith, l))) (last b e (λ k h. x.1 k (omega (arith, x.0))))
    ]
      where
        last : (b : Bool) → f n ≡ b → ((k : ℕ) → k < n → f k ≡ false) → First (suc n) f (cond (f n) n (suc n))
        last true e h = rw e (omega arith, h, λ l. e)
        last false e h = rw e (omega arith, (λ k l. elim (ℕ_discrete k n) [ yes q ↦ ap f q ∙ e | no q ↦ h k (omega arith) ]), λ l. absurd (omega arith))

pub first-at : (n k : ℕ) (f : ℕ → Bool) → k < n → f k ≡ true → ((j : ℕ) → j < k → f j ≡ false) → k ≡ first n f
first-at n k f h e b = go (first n f) (first-is n f)
  where
    go : (t : ℕ) → First n f t → k ≡ t
    go t x = elim (dec_lt t k) [
      | yes l ↦ clash (f t) (x.2 (omega arith)) (b t l)
      | no l ↦ elim (dec_lt k t) [ yes m ↦ clash (f k) e (x.1 k m) | no m ↦ omega arith ]
    ]

pub first-none : (n : ℕ) (f : ℕ → Bool) → ((j : ℕ) → j < n → f j ≡ false) → n ≡ first n f
first-none n f b = go (first n f) (first-is n f)
  where
    go : (t : ℕ) → First n f t → n ≡ t
    go t x = elim (dec_lt t n) [ yes l ↦ clash (f t) (x.2 l) (b t l) | no l ↦ omega (arith, x.0) ]

pub any-same : (n : ℕ) (f h : ℕ → Bool) → ((k : ℕ) → k < n → f k ≡ h k) → any n f ≡ any n h
unfolding any
any-same zero f h e = refl
any-same (suc n) f h e = rw (any-same n f h (λ k l. e k (omega arith)), e n (omega arith)) refl

pub every-same : (n : ℕ) (f h : ℕ → Bool) → ((k : ℕ) → k < n → f k ≡ h k) → every n f ≡ every n h
every-same zero f h e = refl
every-same (suc n) f h e = rw (every-same n f h (λ k l. e k (omega arith)), e n (omega arith)) refl
