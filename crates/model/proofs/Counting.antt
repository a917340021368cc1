use Rattle.std.proofs.Common.{◌≡◌, ℕ, zero, suc, ◌+◌, ◌<◌, ◌≤◌, Bool, true, false, cond, refl, ap, ◌∙◌, arith}
use native.Mathlib.Decide.{ℕ_discrete}
use Rattle.model.specs.Range.{put}
use Rattle.model.proofs.Range.{put_same, put_other}

-- how many tasks below n are not placed
unfoldable pub missing : (ℕ → Bool) → ℕ → ℕ
missing f zero = 0
missing f (suc n) = missing f n + cond (f n) 0 1

pub missing-alike : (f h : ℕ → Bool) (n : ℕ) → ((t : ℕ) → t < n → f t ≡ h t) → missing f n ≡ missing h n
unfolding missing
missing-alike f h zero e = refl
missing-alike f h (suc n) e = rw (e n (omega arith), missing-alike f h n (λ t l. e t (omega arith)))

pub missing-put : (f : ℕ → Bool) (t n : ℕ) → t < n → f t ≡ false → suc (missing (put f t true) n) ≡ missing f n
unfolding missing
missing-put f t zero h e = absurd (omega arith)
missing-put f t (suc n) h e = elim (ℕ_discrete n t) [
  | yes q ↦ let a : missing (put f t true) n ≡ missing f n = missing-alike (put f t true) f n (λ u l. put_other f t true u (omega arith)) in
      let b : f n ≡ false = ap f q ∙ e in
      rw (put_same f t true n q, b, a) (omega arith)
  | no ne ↦ rw (put_other f t true n ne) (omega (arith, missing-put f t n (omega arith) e))
]

pub all-missing : (n : ℕ) → missing (λ _. false) n ≡ n
unfolding missing
all-missing zero = refl
all-missing (suc n) = omega (arith, all-missing n)

pub missing-find : (f : ℕ → Bool) (n : ℕ) → 0 < missing f n → (t : ℕ) × (t < n) × (f t ≡ false)
unfolding missing
missing-find f zero h = absurd (omega arith)
missing-find f (suc n) h = go (f n) refl (missing-find f n)
  where
    go : (b : Bool) → f n ≡ b → (0 < missing f n → (t : ℕ) × (t < n) × (f t ≡ false)) → (t : ℕ) × (t < suc n) × (f t ≡ false)
    go false e ih = (n, omega arith, e)
    go true e ih = let x = ih (omega (arith, rw e at h)) in (x.0, omega (arith, x.1), x.2)

pub missing-none : (f : ℕ → Bool) (n t : ℕ) → missing f n ≡ 0 → t < n → f t ≡ true
missing-none f n t e h = go (f t) refl
  where
    go : (b : Bool) → f t ≡ b → f t ≡ true
    go true q = q
    go false q = absurd (omega (arith, missing-put f t n h q))

pub missing-le : (f : ℕ → Bool) (n : ℕ) → missing f n ≤ n
unfolding missing
missing-le f zero = omega arith
missing-le f (suc n) = go (f n) (missing-le f n)
  where
    go : (b : Bool) → missing f n ≤ n → missing f n + cond b 0 1 ≤ suc n
    go true h = omega arith
    go false h = omega arith
