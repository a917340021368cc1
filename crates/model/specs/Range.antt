use Rattle.std.specs.Prelude.{ℕ, zero, suc, ◌+◌, min, max, Bool, true, false, if◌then◌else◌, ◌&&◌, ◌||◌, ◌==◌, nat_lt, Some, None, Option}

-- the greatest of f 0, .., f (n - 1), or 0 where n is 0
abbrev pub top : ℕ → (ℕ → ℕ) → ℕ
top zero f = 0
top (suc n) f = max (top n f) (f n)

-- whether every number below n passes
abbrev pub every : ℕ → (ℕ → Bool) → Bool
every zero f = true
every (suc n) f = every n f && f n

-- whether some number below n passes
unfoldable pub any : ℕ → (ℕ → Bool) → Bool
any zero f = false
any (suc n) f = any n f || f n

-- the lowest number below n that passes, or n
unfoldable pub first : ℕ → (ℕ → Bool) → ℕ
first zero f = 0
first (suc n) f = if nat_lt (first n f) n then first n f else if f n then n else suc n

-- the lowest number below n that passes, if one does
abbrev pub lowest : ℕ → (ℕ → Bool) → Option ℕ
lowest n f = if nat_lt (first n f) n then Some (first n f) else None

-- f, but v at t
abbrev pub put : {A : Type 0} → (ℕ → A) → ℕ → A → ℕ → A
put f t v u = if u == t then v else f u

-- the least of f 0, .., f (n - 1), for n from 1 on
abbrev pub least : ℕ → (ℕ → ℕ) → ℕ
least zero f = f 0
least (suc n) f = min (least n f) (f n)

-- the sum of f 0, .., f (n - 1)
abbrev pub sum : ℕ → (ℕ → ℕ) → ℕ
sum zero f = 0
sum (suc n) f = sum n f + f n
