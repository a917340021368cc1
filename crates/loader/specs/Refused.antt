use Rattle.std.specs.Prelude.{◌≡◌, ℕ, ◌+◌, ◌*◌, ◌<◌, ◌≤◌, ◌⊎◌, List, [], length, ◌≢◌, slice_index, slice_index_or}
use Rattle.model.specs.Graph.{Sizes, SamePair, LawfulButForCycles}
use Rattle.model.specs.Cycles.{LowestOnCycle}
use Rattle.refusal.specs.declared.layer.Layer.TheVariants.{Bytes, Records, Graph}
use Rattle.refusal.specs.declared.refusal.Refusal.{Refusal}
use Rattle.loader.specs.declared.transfer.Transfer.{Transfer}
use Rattle.loader.specs.View.{blank}
use Rattle.loader.specs.Description.{Description, described}
use Rattle.loader.specs.Bytes.{word_at}
use Rattle.loader.specs.Layout.{place_of}
use Rattle.loader.specs.Encoding.{RecordAt, TaskAt, TransferAt, Encodes}

-- a work is in range
abbrev pub WorkInRange : ℕ → Type 0
WorkInRange w = (1 ≤ w) × (w ≤ 1000)

-- the numbers of a transfer are in range among n tasks, and from is not to
abbrev pub InRange : ℕ → Transfer → Type 0
InRange n t = (t.from < n) × (t.to < n) × (t.cost ≤ 1000) × (t.from ≢ t.to)

-- the records so far are whole, tell this description, as far as it goes, and break no rule
pub record SoFar (bs : List ℕ) (d : Description) : Type 0 where
  pub first : (word_at bs 0 ≡ 4) × (word_at bs 2 ≡ 1)
      × (word_at bs 4 ≡ d.tasks) × (word_at bs 6 ≡ d.machines)
  pub sizes : Sizes (described d)
  pub task : (k : ℕ) → k < length d.works
      → TaskAt bs (8 + 6 * k) (slice_index d.works k) × WorkInRange (slice_index d.works k)
  pub transfer : (k : ℕ) → k < length d.transfers
      → TransferAt bs (place_of d.tasks k) (slice_index_or d.transfers k blank)
      × InRange d.tasks (slice_index_or d.transfers k blank)
  pub pairs : (i j : ℕ) → SamePair (described d) i j → ⊥
  pub inside : place_of (length d.works) (length d.transfers) ≤ length bs

-- what is due: the first record; after records that tell a description, the record of a task;
-- after all tasks, a transfer or the last record
pub data Due : Type 0 where
  header : Due
  task : Description → Due
  more : Description → Due

-- the byte where the record that is due begins
abbrev pub place : Due → ℕ
place header = 0
place (task d) = 8 + 6 * length d.works
place (more d) = place_of d.tasks (length d.transfers)

-- where it ends, by the payload length that it tells
abbrev pub end : List ℕ → Due → ℕ
end bs u = place u + 4 + word_at bs (place u)

-- it may have this kind and payload length
abbrev pub Fits : Due → ℕ → ℕ → Type 0
Fits header kind payload = (kind ≡ 1) × (payload ≡ 4)
Fits (task d) kind payload = (kind ≡ 2) × (payload ≡ 2)
Fits (more d) kind payload = ((kind ≡ 3) × (payload ≡ 6)) ⊎ ((kind ≡ 4) × (payload ≡ 0))

-- its numbers are in range; the last record has none
abbrev pub Ranged : List ℕ → Due → Type 0
Ranged bs header =
    (1 ≤ word_at bs 4) × (word_at bs 4 ≤ 32) × (1 ≤ word_at bs 6) × (word_at bs 6 ≤ 8)
Ranged bs (task d) = (w : ℕ) → TaskAt bs (place (task d)) w → WorkInRange w
Ranged bs (more d) = (t : Transfer) → TransferAt bs (place (more d)) t → InRange d.tasks t

-- the records before it are in order and break no rule
abbrev pub Before : List ℕ → Due → Type 0
Before bs header = Unit {0}
Before bs (task d) = SoFar bs d × (length d.works < d.tasks) × (d.transfers ≡ [])
Before bs (more d) = SoFar bs d × (length d.works ≡ d.tasks)

-- and it is whole
abbrev pub Whole : List ℕ → Due → Type 0
Whole bs u = Before bs u × (end bs u ≤ length bs)

-- and it has a kind and a payload length that are due
abbrev pub Formed : List ℕ → Due → Type 0
Formed bs u = Whole bs u × Fits u (word_at bs (place u + 2)) (word_at bs (place u))

-- or it is whole, and a transfer with its numbers in range
abbrev pub Sound : List ℕ → Description → Transfer → Type 0
Sound bs d t = Whole bs (more d) × TransferAt bs (place (more d)) t × InRange d.tasks t

-- what a refusal tells: the first record that breaks a rule, and the first rule that it breaks
pub data Refused (bs : List ℕ) : Refusal → Type 0 where
  -- the record is not whole
  short : (u : Due) → Before bs u → length bs < end bs u
      → Refused bs (record { number = 1; place = place u; layer = Bytes })
  -- its kind is not due
  kind : (u : Due) → Whole bs u → ((n : ℕ) → Fits u (word_at bs (place u + 2)) n → ⊥)
      → Refused bs (record { number = 2; place = place u; layer = Records })
  -- its payload length is not the one that its kind wants
  payload : (u : Due) (n : ℕ) → Whole bs u → Fits u (word_at bs (place u + 2)) n
      → (word_at bs (place u) ≢ n)
      → Refused bs (record { number = 3; place = place u; layer = Records })
  -- a number is out of range, or from equals to
  range : (u : Due) → Formed bs u → (Ranged bs u → ⊥)
      → Refused bs (record { number = 4; place = place u; layer = Graph })
  -- it is a transfer after 128 transfers
  many : (d : Description) (t : Transfer) → Sound bs d t → length d.transfers ≡ 128
      → Refused bs (record { number = 5; place = place (more d); layer = Graph })
  -- it is a transfer whose pair came before
  twice : (d : Description) (t : Transfer) (k : ℕ) → Sound bs d t → length d.transfers < 128
      → k < length d.transfers → (slice_index_or d.transfers k blank).from ≡ t.from
      → (slice_index_or d.transfers k blank).to ≡ t.to
      → Refused bs (record { number = 6; place = place (more d); layer = Graph })
  -- it is the last record, and bytes follow it
  tail : (d : Description) → Whole bs (more d) → RecordAt bs (place (more d)) 4 0
      → place (more d) + 4 < length bs
      → Refused bs (record { number = 7; place = place (more d) + 4; layer = Records })
  -- every record is in order, and there is a cycle
  cycle : (d : Description) (t : ℕ) → Encodes bs d → LawfulButForCycles (described d)
      → LowestOnCycle (described d) t
      → Refused bs (record { number = 8; place = 8 + 6 * t; layer = Graph })
