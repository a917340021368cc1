use Rattle.std.proofs.Common.{◌≡◌, ℕ, zero, suc, ◌+◌, ◌*◌, ◌<◌, ◌≤◌, Bool, true, false, cond, not, ◌&&◌, ◌≢◌, List, [], ◌∷◌, ◌++◌, length, Some, None, refl, sym, ap, ◌∙◌, arith}
use native.Mathlib.Decide.{ℕ_discrete, dec_lt}
use Rattle.std.specs.List.{range_with_len, filter, flat_map}
use Rattle.std.proofs.lemmas.Bool.{lt-ltb, le-ltb, and_from, and_right, not-true, not-false}
use Rattle.std.proofs.lemmas.List.{length-append, append-nil}
use Rattle.std.proofs.lemmas.List.Elements.{filter-append}
use Rattle.std.proofs.lemmas.List.Concat.{flat_map-append}
use Rattle.model.specs.Range.{every, first, lowest}
use Rattle.model.specs.Children.{passing}
use Rattle.model.proofs.Range.{every-from, every-off, First, first-is}

-- The numbers below n that pass a test: one number more, how many they are, and where one passes at most.

range-more : (a n : ℕ) → range_with_len a (suc n) ≡ range_with_len a n ++ (a + n) ∷ []
range-more a zero = let e : a ≡ a + 0 = omega arith in ap (λ k. k ∷ []) e
range-more a (suc n) = let e : a + 1 + n ≡ a + suc n = omega arith in ap (λ l. a ∷ l) (range-more (a + 1) n ∙ ap (λ k. range_with_len (a + 1) n ++ k ∷ []) e)

passing-suc : (n : ℕ) (f : ℕ → Bool) → passing (suc n) f ≡ passing n f ++ cond (f n) (n ∷ []) []
passing-suc n f = let e : 0 + n ≡ n = omega arith in ap (filter f) (range-more 0 n ∙ ap (λ k. range_with_len 0 n ++ k ∷ []) e) ∙ filter-append f (range_with_len 0 n) (n ∷ [])

passing-next : (n : ℕ) (f : ℕ → Bool) → passing (n + 1) f ≡ passing n f ++ cond (f n) (n ∷ []) []
passing-next n f = let e : n + 1 ≡ suc n = omega arith in ap (λ k. passing k f) e ∙ passing-suc n f

pub passing-with : (n : ℕ) (f : ℕ → Bool) → f n ≡ true → passing (n + 1) f ≡ passing n f ++ n ∷ []
passing-with n f e = passing-next n f ∙ ap (λ b. passing n f ++ cond b (n ∷ []) []) e

pub passing-without : (n : ℕ) (f : ℕ → Bool) → f n ≡ false → passing (n + 1) f ≡ passing n f
passing-without n f e = passing-next n f ∙ ap (λ b. passing n f ++ cond b (n ∷ []) []) e ∙ append-nil (passing n f)

-- what is made of each of them
pub made-with : {A : Type 0} (h : ℕ → List A) (n : ℕ) (f : ℕ → Bool) → f n ≡ true → flat_map h (passing (n + 1) f) ≡ flat_map h (passing n f) ++ h n
made-with h n f e = ap (flat_map h) (passing-with n f e) ∙ flat_map-append h (passing n f) (n ∷ []) ∙ ap (λ l. flat_map h (passing n f) ++ l) (append-nil (h n))

pub length-made : {A : Type 0} (h : ℕ → List A) (w n : ℕ) (f : ℕ → Bool) → ((k : ℕ) → length (h k) ≤ w) → length (flat_map h (passing n f)) ≤ w * n
length-made h w zero f b = omega arith
length-made h w (suc n) f b =
    let more = ap (λ l. length (flat_map h l)) (passing-suc n f) in
    omega (arith, more, ap length (flat_map-append h (passing n f) (cond (f n) (n ∷ []) [])), length-append (flat_map h (passing n f)) (flat_map h (cond (f n) (n ∷ []) [])), one (f n), length-made h w n f b)
  where
    one : (x : Bool) → length (flat_map h (cond x (n ∷ []) [])) ≤ w
    one true = omega (arith, ap length (append-nil (h n)), b n)
    one false = omega arith

length-one : (b : Bool) (n : ℕ) → length (cond b (n ∷ []) []) ≤ 1
length-one true n = omega arith
length-one false n = omega arith

pub length-passing : (n : ℕ) (f : ℕ → Bool) → length (passing n f) ≤ n
length-passing zero f = omega arith
length-passing (suc n) f = omega (arith, ap length (passing-suc n f), length-append (passing n f) (cond (f n) (n ∷ []) []), length-one (f n) n, length-passing n f)

-- where one fails there is room for one more
pub passing-room : (n k : ℕ) (f : ℕ → Bool) → k < n → f k ≡ false → length (passing n f) < n
passing-room zero k f h e = absurd (omega arith)
passing-room (suc n) k f h e =
    let l = ap length (passing-suc n f) in
    let a = length-append (passing n f) (cond (f n) (n ∷ []) []) in
    elim (ℕ_discrete k n) [
      | yes q ↦ let z : f n ≡ false = sym (ap f q) ∙ e in omega (arith, l, a, ap (λ c. length (cond c (n ∷ []) [])) z, length-passing n f)
      | no nq ↦ omega (arith, l, a, length-one (f n) n, passing-room n k f (omega arith) e)
    ]

pub passing-none : (n : ℕ) (f : ℕ → Bool) → ((k : ℕ) → k < n → f k ≡ false) → passing n f ≡ []
passing-none zero f h = refl
passing-none (suc n) f h = passing-suc n f ∙ rw (passing-none n f (λ k l. h k (omega arith)), h n (omega arith)) refl

pub passing-one : (n i : ℕ) (f : ℕ → Bool) → i < n → f i ≡ true → ((k : ℕ) → k < n → k ≢ i → f k ≡ false) → passing n f ≡ i ∷ []
passing-one zero i f h e o = absurd (omega arith)
passing-one (suc n) i f h e o = passing-suc n f ∙ elim (ℕ_discrete i n) [
  | yes q ↦ rw (passing-none n f (λ k l. o k (omega arith) (omega arith)), sym (ap f q) ∙ e) (ap (λ k. k ∷ []) (sym q))
  | no nq ↦ rw (passing-one n i f (omega arith) e (λ k l. o k (omega arith)), o n (omega arith) (omega arith)) refl
]

-- what the lowest that passes tells
pub lowest-none : (n : ℕ) (f : ℕ → Bool) → None ≡ lowest n f → (k : ℕ) → k < n → f k ≡ false
lowest-none n f e k h = elim (dec_lt (first n f) n) [
  | yes l ↦ let z = rw (lt-ltb (first n f) n l) at e in cc
  | no l ↦ (first-is n f).1 k (omega arith)
]

pub lowest-some : (n i : ℕ) (f : ℕ → Bool) → Some i ≡ lowest n f → (i < n) × First n f i
lowest-some n i f e = elim (dec_lt (first n f) n) [
  | yes l ↦ let z = rw (lt-ltb (first n f) n l) at e in let q : first n f ≡ i = cc in let x : (first n f < n) × First n f (first n f) = (l, first-is n f) in rw q at x
  | no l ↦ let z = rw (le-ltb (first n f) n (omega (arith, l))) at e in cc
]

-- the only number that fails while all below it pass
module _ (n : ℕ) (u : ℕ → Bool) where
  pub only-none : None ≡ lowest n (λ m. not (u m)) → passing n (λ m. not (u m) && every m u) ≡ []
  only-none e = passing-none n _ (λ k h. rw (lowest-none n (λ m. not (u m)) e k h) refl)

  pub only-some : (i : ℕ) → Some i ≡ lowest n (λ m. not (u m)) → passing n (λ m. not (u m) && every m u) ≡ i ∷ []
  only-some i e =
      let x = lowest-some n i (λ m. not (u m)) e in
      passing-one n i _ x.0 (and_from _ _ (x.1.2 x.0) (every-from i u (λ k l. not-false _ (x.1.1 k l)))) (λ k h ne. elim (dec_lt k i) [
        | yes l ↦ rw (x.1.1 k l) refl
        | no l ↦ and_right (not (u k)) _ (every-off k i u (omega arith) (not-true _ (x.1.2 x.0)))
      ])
