use Rattle.std.specs.Prelude.{ℕ}
use Rattle.loader.specs.declared.records.RecordKind.{RecordKind}
use Rattle.loader.specs.declared.records.RecordKind.TheVariants.{Head, Task, Transfer, End}

-- the number that tells a kind of record in a file
abbrev pub kind_number : RecordKind → ℕ
kind_number Head = 1
kind_number Task = 2
kind_number Transfer = 3
kind_number End = 4

-- the length of its payload
abbrev pub payload_length : RecordKind → ℕ
payload_length Head = 4
payload_length Task = 2
payload_length Transfer = 6
payload_length End = 0
