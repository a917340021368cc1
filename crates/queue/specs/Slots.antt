use Rattle.std.specs.Prelude.{◌≡◌, ℕ, ◌-◌, ◌/◌, ◌<◌, ◌≤◌, Bool, false, List, take, drop, slice_index_or}
use Rattle.std.specs.List.Sorted.{IsPermutation}

-- the slot above slot k
abbrev pub parent : ℕ → ℕ
parent k = (k - 1) / 2

-- slot k does not come before slot i
abbrev pub NotBefore : {X : Type 0} → (X → X → Bool) → List X → ℕ → ℕ → Type 0
NotBefore {X} before xs k i = (d : X)
    → before (slice_index_or xs k d) (slice_index_or xs i d) ≡ false

-- of the first n slots none comes before the one above it; slot 0 counts as above itself
abbrev pub HeapOrder : {X : Type 0} → (X → X → Bool) → List X → ℕ → Type 0
HeapOrder before xs n = (k : ℕ) → k < n → NotBefore before xs k (parent k)

-- the same but for the children of slot 0
abbrev pub BelowTop : {X : Type 0} → (X → X → Bool) → List X → ℕ → Type 0
BelowTop before xs n = (k : ℕ) → 3 ≤ k → k < n → NotBefore before xs k (parent k)

-- of the first n slots no child of slot j comes before slot c
abbrev pub LeastChild : {X : Type 0} → (X → X → Bool) → List X → ℕ → ℕ → ℕ → Type 0
LeastChild before xs j c n = (k : ℕ) → 1 ≤ k → k < n → parent k ≡ j → NotBefore before xs k c

-- the arrangement: the first n of ys are those of xs, each as often, wherever they lie; the others are as they were
pub record Rearranged {X : Type 0} (n : ℕ) (xs ys : List X) : Type 0 where
  pub entries : IsPermutation (take n xs) (take n ys)
  pub others : drop n ys ≡ drop n xs
