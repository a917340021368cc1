use Rattle.std.specs.Prelude.{ℕ, ◌+◌, ◌*◌, Bool, if◌then◌else◌, ◌&&◌, List, length, Ok, Err, Result, nat_le, slice_index}
use Rattle.loader.specs.declared.faults.BytesFault.{BytesFault}
use Rattle.loader.specs.declared.records.Head.{Head}

-- the number in two bytes, the lesser first
abbrev pub word : ℕ → ℕ → ℕ
word low high = low + 256 * high

-- the number at byte i
abbrev pub word_at : List ℕ → ℕ → ℕ
word_at bs i = word (slice_index bs i) (slice_index bs (i + 1))

-- the record at byte i is whole: its head is there, and as many bytes after it as it says
abbrev pub whole : List ℕ → ℕ → Bool
whole bs i = nat_le (i + 4) (length bs) && nat_le (i + 4 + word_at bs i) (length bs)

-- the head of the record at byte i
abbrev pub head_at : List ℕ → ℕ → Result Head BytesFault
head_at bs i =
    if whole bs i
    then Ok (record { payload = word_at bs i; kind = word_at bs (i + 2) })
    else Err (record { place = i })
