use Rattle.std.specs.Prelude.{ℕ, ◌+◌, Bool, true, false, if◌then◌else◌, List, Ok, Err, Result, ◌==◌}
use Rattle.loader.specs.declared.faults.RecordsFault.{RecordsFault}
use Rattle.loader.specs.declared.faults.RecordsFault.TheVariants.{Bytes, Kind, Length}
use Rattle.loader.specs.Chaining.{and_then, lifted}
use Rattle.loader.specs.Bytes.{head_at}

-- the byte where the payload begins, if it has the length that is due
abbrev pub payload_of : ℕ → ℕ → ℕ → Result ℕ RecordsFault
payload_of length due i = if length == due then Ok (i + 4) else Err (Length i)

-- a record of the one kind that is due: the byte where its payload begins
abbrev pub due_at : List ℕ → ℕ → ℕ → ℕ → Result ℕ RecordsFault
due_at bs i kind length = and_then (lifted Bytes (head_at bs i)) (λ h.
    if h.kind == kind then payload_of h.payload length i else Err (Kind i))

-- after the tasks: whether the record at byte i is a transfer, and not the last record
abbrev pub more_at : List ℕ → ℕ → Result Bool RecordsFault
more_at bs i = and_then (lifted Bytes (head_at bs i)) (λ h.
    if h.kind == 3 then and_then (payload_of h.payload 6 i) (λ _. Ok true)
    else if h.kind == 4 then and_then (payload_of h.payload 0 i) (λ _. Ok false)
    else Err (Kind i))
