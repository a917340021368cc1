use Rattle.std.specs.Prelude.{◌≡◌, ℕ, ◌<◌, ◌≤◌, ◌⊎◌, Bool, true, false, if◌then◌else◌, ◌==◌, nat_lt}

-- the pair (a, b) is below the pair (c, d): a is less than c, or they are equal and b is less than d
abbrev pub below : ℕ → ℕ → ℕ → ℕ → Bool
below a b c d = if nat_lt a c then true else (if a == c then nat_lt b d else false)

-- the pair (c, d) is at most the pair (a, b), in words
abbrev pub AtMost : ℕ → ℕ → ℕ → ℕ → Type 0
AtMost c d a b = (c < a) ⊎ ((c ≡ a) × (d ≤ b))
