use Rattle.std.proofs.Common.{◌≡◌, ℕ, zero, suc, ◌+◌, ◌-◌, ◌*◌, ◌<◌, ◌≤◌, min, Bool, true, false, cond, ◌&&◌, eqb, ltb, leb, ◌≢◌, ◌⊎◌, sym, refl, inl, inr, arith}
use native.Mathlib.Decide.{ℕ_discrete, dec_le, dec_lt}
use native.Mathlib.Nat.{zero-mul, suc-mul}
use Rattle.std.proofs.lemmas.Bool.{eq-eqb, ne_eqb}
use Rattle.std.proofs.lemmas.Bool.Decides.{nat_tests}
use Rattle.model.specs.Range.{sum}

pub sum-le : (n : ℕ) (f h : ℕ → ℕ) → ((k : ℕ) → k < n → f k ≤ h k) → sum n f ≤ sum n h
sum-le zero f h l = omega arith
sum-le (suc n) f h l = omega (arith, l n (omega arith), sum-le n f h (λ k i. l k (omega arith)))

pub sum-same : (n : ℕ) (f h : ℕ → ℕ) → ((k : ℕ) → k < n → f k ≡ h k) → sum n f ≡ sum n h
sum-same zero f h l = refl
sum-same (suc n) f h l = omega (arith, l n (omega arith), sum-same n f h (λ k i. l k (omega arith)))

pub sum-add : (n : ℕ) (f h : ℕ → ℕ) → sum n (λ k. f k + h k) ≡ sum n f + sum n h
sum-add zero f h = refl
sum-add (suc n) f h = omega (arith, sum-add n f h)

pub sum-none : (n : ℕ) (f : ℕ → ℕ) → ((k : ℕ) → k < n → f k ≡ 0) → sum n f ≡ 0
sum-none zero f l = refl
sum-none (suc n) f l = omega (arith, l n (omega arith), sum-none n f (λ k i. l k (omega arith)))

pub sum-swap : (n m : ℕ) (f : ℕ → ℕ → ℕ) → sum n (λ i. sum m (λ j. f i j)) ≡ sum m (λ j. sum n (λ i. f i j))
sum-swap zero m f = sym (sum-none m (λ j. 0) (λ k i. refl))
sum-swap (suc n) m f = omega (arith, sum-swap n m f, sum-add m (λ j. sum n (λ i. f i j)) (λ j. f n j))

pub sum-const : (n c : ℕ) → sum n (λ _. c) ≡ n * c
sum-const zero c = sym (zero-mul c)
sum-const (suc n) c = omega (arith, sum-const n c, suc-mul n c)

-- one of all takes it
pub sum-at : (n x w : ℕ) → x < n → sum n (λ m. cond (eqb x m) w 0) ≡ w
sum-at zero x w h = absurd (omega arith)
sum-at (suc n) x w h = elim (ℕ_discrete x n) [
  | yes e ↦ rw (eq-eqb x n e) (omega (arith, sum-none n (λ m. cond (eqb x m) w 0) (λ m hm. rw (ne_eqb x m (omega arith)))))
  | no ne ↦ rw (ne_eqb x n ne) (omega (arith, sum-at n x w (omega arith)))
]

sum-ones : (n : ℕ) (f : ℕ → ℕ) → ((k : ℕ) → k < n → f k ≤ 1) → sum n f ≤ n
sum-ones zero f l = omega arith
sum-ones (suc n) f l = omega (arith, l n (omega arith), sum-ones n f (λ k i. l k (omega arith)))

-- of marks that exclude one another one is set at most
sum-one : (n : ℕ) (f : ℕ → ℕ) → ((k : ℕ) → k < n → f k ≤ 1) → ((i j : ℕ) → i < n → j < n → i ≢ j → (f i ≡ 0) ⊎ (f j ≡ 0)) → sum n f ≤ 1
sum-one zero f l x = omega arith
sum-one (suc n) f l x = go (sum-one n f (λ k i. l k (omega arith)) (λ i j hi hj. x i j (omega arith) (omega arith))) (dec_le (f n) 0)
  where
    go : sum n f ≤ 1 → Dec (f n ≤ 0) → sum n f + f n ≤ 1
    go h (yes z) = omega arith
    go h (no z) =
        let r : sum n f ≡ 0 = sum-none n f (λ k i. elim (x k n (omega arith) (omega arith) (omega arith)) [ inl e ↦ e | inr e ↦ absurd (omega arith) ]) in
        omega (arith, l n (omega arith))

-- 1 while a task of work w that starts at a runs
abbrev runs : ℕ → ℕ → ℕ → ℕ
runs a w x = cond (leb a x && ltb x (a + w)) 1 0

runs-one : (a w x : ℕ) → runs a w x ≤ 1
runs-one a w x = grind (arith, nat_tests)

runs-off : (a w x : ℕ) → (x < a) ⊎ (a + w ≤ x) → runs a w x ≡ 0
runs-off a w x h = grind (arith, nat_tests)

runs-on : (a w x : ℕ) → a ≤ x → x < a + w → runs a w x ≡ 1
runs-on a w x h k = grind (arith, nat_tests)

runs-sum : (a w n : ℕ) → sum n (runs a w) ≡ min (n - a) w
runs-sum a w zero = omega arith
runs-sum a w (suc n) = go (dec_le a n) (dec_lt n (a + w)) (runs-sum a w n)
  where
    go : Dec (a ≤ n) → Dec (n < a + w) → sum n (runs a w) ≡ min (n - a) w → sum n (runs a w) + runs a w n ≡ min (suc n - a) w
    go (yes h) (yes k) e = omega (arith, runs-on a w n h k)
    go (yes h) (no k) e = omega (arith, runs-off a w n (inr (omega arith)))
    go (no h) k e = omega (arith, runs-off a w n (inl (omega arith)))

-- Of tasks that lie apart and finish by a time, the work adds up to that time at most: each unit of time counts for
-- one task.
pub works-fit : (n hi : ℕ) (T : ℕ → Bool) (start work : ℕ → ℕ)
    → ((t : ℕ) → t < n → T t ≡ true → start t + work t ≤ hi)
    → ((a b : ℕ) → a < n → b < n → a ≢ b → T a ≡ true → T b ≡ true → (start a + work a ≤ start b) ⊎ (start b + work b ≤ start a))
    → sum n (λ t. cond (T t) (work t) 0) ≤ hi
works-fit n hi T start work up apart =
    let f : ℕ → ℕ → ℕ = λ t x. cond (T t) (runs (start t) (work t) x) 0 in
    let each : sum n (λ t. cond (T t) (work t) 0) ≡ sum n (λ t. sum hi (f t)) = sum-same n (λ t. cond (T t) (work t) 0) (λ t. sum hi (f t)) (λ t ht. in-time t ht (T t) refl) in
    omega (
      arith,
      sum-swap n hi f,
      sum-ones hi (λ x. sum n (λ t. f t x)) (λ x hx. sum-one n (λ t. f t x) (λ t ht. one t x (T t)) (λ a b ha hb ne. two a b x ha hb ne (T a) refl (T b) refl)),
    )
  where
    in-time : (t : ℕ) → t < n → (b : Bool) → T t ≡ b → cond (T t) (work t) 0 ≡ sum hi (λ x. cond (T t) (runs (start t) (work t) x) 0)
    in-time t ht true e = rw e (omega (arith, runs-sum (start t) (work t) hi, up t ht e))
    in-time t ht false e = rw e (sym (sum-none hi (λ x. 0) (λ k i. refl)))

    one : (t x : ℕ) (b : Bool) → cond b (runs (start t) (work t) x) 0 ≤ 1
    one t x true = runs-one (start t) (work t) x
    one t x false = omega arith

    two : (a b x : ℕ) → a < n → b < n → a ≢ b → (p : Bool) → T a ≡ p → (q : Bool) → T b ≡ q → (cond (T a) (runs (start a) (work a) x) 0 ≡ 0) ⊎ (cond (T b) (runs (start b) (work b) x) 0 ≡ 0)
    two a b x ha hb ne false e q f = inl (rw e)
    two a b x ha hb ne true e false f = inr (rw f)
    two a b x ha hb ne true e true f = rw (e, f) (elim (apart a b ha hb ne e f) [
      | inl h ↦ elim (dec_lt x (start b)) [ yes l ↦ inr (runs-off (start b) (work b) x (inl l)) | no l ↦ inl (runs-off (start a) (work a) x (inr (omega arith))) ]
      | inr h ↦ elim (dec_lt x (start a)) [ yes l ↦ inl (runs-off (start a) (work a) x (inl l)) | no l ↦ inr (runs-off (start b) (work b) x (inr (omega arith))) ]
    ])
