use Rattle.std.specs.Prelude.{◌≡◌, ℕ, zero, suc, ◌+◌, ◌-◌, ◌<◌, ◌≤◌, map, if◌then◌else◌, List, [], ◌∷◌, ◌++◌, length, ◌==◌, slice_index_or}
use Rattle.queue.specs.declared.entry.Entry.{Entry}
use Rattle.chain.specs.declared.cell.Cell.{Cell}

-- what stands past the last cell
abbrev pub blank : Cell
blank = record { entry = record { bound = 0; node = 0 }; next = 0 }

-- the cell that a cell names as the next one
abbrev pub after : List Cell → ℕ → ℕ
after cells at = (slice_index_or cells at blank).next

-- the entry that a cell holds
abbrev pub entry_at : List Cell → ℕ → Entry
entry_at cells at = (slice_index_or cells at blank).entry

-- cell k with its entry, naming the cell behind it in memory
abbrev pub strung : List Cell → ℕ → Cell
strung cells k = record { entry = entry_at cells k; next = k + 1 }

-- as many cells as were lent hold what they held, and each names the one behind it in memory
abbrev pub StrungUp : List Cell → List Cell → Type 0
StrungUp lent cells = (k : ℕ) → k < length lent → slice_index_or cells k blank ≡ strung lent k

-- the cell that is k steps on
abbrev pub onward : List Cell → ℕ → ℕ → ℕ
onward cells zero at = at
onward cells (suc k) at = onward cells k (after cells at)

-- the numbers of n cells, from a cell on
abbrev pub walk : List Cell → ℕ → ℕ → List ℕ
walk cells zero at = []
walk cells (suc n) at = at ∷ walk cells n (after cells at)

-- what these cells hold
abbrev pub entries_at : List Cell → List ℕ → List Entry
entries_at cells is = map (entry_at cells) is

-- how often a number stands in a list
abbrev pub occurs : ℕ → List ℕ → ℕ
occurs x [] = 0
occurs x (y ∷ ys) = (if x == y then 1 else 0) + occurs x ys

-- the numbers of the n cells in use, chained from the head on, then of the others, chained from the first
-- free one on
abbrev pub numbers : List Cell → ℕ → ℕ → ℕ → List ℕ
numbers cells head free n = walk cells n head ++ walk cells (length cells - n) free

-- the arrangement: every cell is in use or free, and none is met twice, wherever the chains lead
pub record Apart (cells : List Cell) (head free n : ℕ) : Type 0 where
  pub within : n ≤ length cells
  pub once : (x : ℕ) → occurs x (numbers cells head free n) ≤ 1
  pub inside : (x : ℕ) → length cells ≤ x → occurs x (numbers cells head free n) ≡ 0
