use Rattle.std.specs.Prelude.{◌≡◌, ℕ, ◌+◌, ◌*◌, ◌<◌, List, length, slice_index, slice_index_or}
use Rattle.loader.specs.declared.transfer.Transfer.{Transfer}
use Rattle.loader.specs.View.{blank}
use Rattle.loader.specs.Description.{Description}
use Rattle.loader.specs.Bytes.{word_at}
use Rattle.loader.specs.Layout.{place_of}

-- a record of this kind and payload length begins at byte i
abbrev pub RecordAt : List ℕ → ℕ → ℕ → ℕ → Type 0
RecordAt bs i kind payload = (word_at bs i ≡ payload) × (word_at bs (i + 2) ≡ kind)

-- the record of a task with this work
abbrev pub TaskAt : List ℕ → ℕ → ℕ → Type 0
TaskAt bs i w = (word_at bs i ≡ 2) × (word_at bs (i + 2) ≡ 2) × (word_at bs (i + 4) ≡ w)

-- the record of a transfer
abbrev pub TransferAt : List ℕ → ℕ → Transfer → Type 0
TransferAt bs i t =
    (word_at bs i ≡ 6) × (word_at bs (i + 2) ≡ 3)
    × (word_at bs (i + 4) ≡ t.from) × (word_at bs (i + 6) ≡ t.to) × (word_at bs (i + 8) ≡ t.cost)

-- the file holds the description, record by record, and nothing else
pub record Encodes (bs : List ℕ) (d : Description) : Type 0 where
  pub long : length bs ≡ place_of d.tasks (length d.transfers) + 4
  pub all : length d.works ≡ d.tasks
  pub first : (word_at bs 0 ≡ 4) × (word_at bs 2 ≡ 1)
      × (word_at bs 4 ≡ d.tasks) × (word_at bs 6 ≡ d.machines)
  pub task : (k : ℕ) → k < d.tasks
      → TaskAt bs (8 + 6 * k) (slice_index d.works k)
  pub transfer : (k : ℕ) → k < length d.transfers
      → TransferAt bs (place_of d.tasks k) (slice_index_or d.transfers k blank)
  pub last : RecordAt bs (place_of d.tasks (length d.transfers)) 4 0
