use Rattle.std.specs.Prelude.{ℕ, zero, suc, ◌+◌, ◌*◌, Bool, if◌then◌else◌, not, ◌&&◌, List, [], ◌∷◌, ◌++◌, length, Some, None, Option, Ok, Err, Result, ◌==◌, nat_le, nat_lt}
use Rattle.model.specs.Cycles.{cyclic}
use Rattle.loader.specs.declared.faults.RecordsFault.TheVariants.{Tail}
use Rattle.loader.specs.declared.faults.GraphFault.{GraphFault}
use Rattle.loader.specs.declared.faults.GraphFault.TheVariants.{Records, Range, TooMany, Twice, Cycle}
use Rattle.loader.specs.declared.transfer.Transfer.{Transfer}
use Rattle.loader.specs.View.{leads}
use Rattle.loader.specs.Description.{Description, described}
use Rattle.loader.specs.Bytes.{word_at}
use Rattle.loader.specs.Chaining.{and_then, lifted}
use Rattle.loader.specs.Layout.{place_of}
use Rattle.loader.specs.Records.{due_at, more_at}

-- x is at least low and at most high
abbrev pub within : ℕ → ℕ → ℕ → Bool
within low high x = nat_le low x && nat_le x high

-- the first record: how many tasks and machines there are
abbrev pub header_at : List ℕ → Result (ℕ × ℕ) GraphFault
header_at bs = and_then (lifted Records (due_at bs 0 1 4)) (λ j.
    if within 1 32 (word_at bs j) && within 1 8 (word_at bs (j + 2))
    then Ok (word_at bs j, word_at bs (j + 2))
    else Err (Range 0))

-- the work that the record at byte i gives
abbrev pub work_at : List ℕ → ℕ → Result ℕ GraphFault
work_at bs i = and_then (lifted Records (due_at bs i 2 2)) (λ j.
    if within 1 1000 (word_at bs j) then Ok (word_at bs j) else Err (Range i))

-- the works that the records of the first k tasks give
abbrev pub read_works : List ℕ → ℕ → Result (List ℕ) GraphFault
read_works bs zero = Ok []
read_works bs (suc k) =
    and_then (read_works bs k) (λ ws.
    and_then (work_at bs (8 + 6 * k)) (λ w.
    Ok (ws ++ w ∷ [])))

-- the numbers of a transfer among n tasks are in range, and from is not to
abbrev pub in_range : ℕ → Transfer → Bool
in_range n t = nat_lt t.from n && (nat_lt t.to n && (nat_le t.cost 1000 && not (t.from == t.to)))

-- the numbers of the record of a transfer at byte i
abbrev pub told_at : List ℕ → ℕ → Transfer
told_at bs i = record {
  from = word_at bs (i + 4);
  to = word_at bs (i + 6);
  cost = word_at bs (i + 8);
}

-- a transfer that the record at byte i gives, if its pair did not come before
abbrev pub new_at : List Transfer → ℕ → Transfer → Result Transfer GraphFault
new_at ts i t = if leads ts t.from t.to then Err (Twice i) else Ok t

-- the transfer that the record at byte i gives, after those of ts
abbrev pub transfer_at : List ℕ → ℕ → List Transfer → ℕ → Result Transfer GraphFault
transfer_at bs n ts i =
    if in_range n (told_at bs i)
    then if nat_lt (length ts) 128 then new_at ts i (told_at bs i) else Err (TooMany i)
    else Err (Range i)

-- the next transfer, or none at the last record
abbrev pub next_at : List ℕ → ℕ → List Transfer → ℕ → Result (Option Transfer) GraphFault
next_at bs n ts i = and_then (lifted Records (more_at bs i)) (λ m.
    if m then and_then (transfer_at bs n ts i) (λ t. Ok (Some t)) else Ok None)

-- how far the reading of transfers has come
pub data Progress : Type 0 where
  reading : List Transfer → Progress
  ended : List Transfer → Progress
  refused : GraphFault → Progress

-- what one more record makes of the transfers before it
abbrev pub taken : List Transfer → Result (Option Transfer) GraphFault → Progress
taken ts (Ok None) = ended ts
taken ts (Ok (Some t)) = reading (ts ++ t ∷ [])
taken ts (Err e) = refused e

-- one record is read, unless the reading has ended or met a fault
abbrev pub step : List ℕ → ℕ → Progress → Progress
step bs n (reading ts) = taken ts (next_at bs n ts (place_of n (length ts)))
step bs n (ended ts) = ended ts
step bs n (refused e) = refused e

-- after k records that follow the tasks
abbrev pub after : List ℕ → ℕ → ℕ → Progress
after bs n zero = reading []
after bs n (suc k) = step bs n (after bs n k)

-- the transfers, once the last record is read; or the fault
abbrev pub finish : Progress → Result (List Transfer) GraphFault
finish (reading ts) = Err (TooMany 0)
finish (ended ts) = Ok ts
finish (refused e) = Err e

-- the 129th transfer is refused, so that 129 records are enough
abbrev pub read_transfers : List ℕ → ℕ → Result (List Transfer) GraphFault
read_transfers bs n = finish (after bs n 129)

-- nothing follows the last record
abbrev pub end_at : List ℕ → ℕ → Result (Unit {0}) GraphFault
end_at bs i = if nat_le (length bs) i then Ok tt else Err (Records (Tail i))

-- what the records tell, each by itself and after those before it
abbrev pub decode : List ℕ → Result Description GraphFault
decode bs =
    and_then (header_at bs) (λ h.
    and_then (read_works bs h.0) (λ ws.
    and_then (read_transfers bs h.0) (λ ts.
    and_then (end_at bs (place_of h.0 (length ts) + 4)) (λ _.
    Ok (record { tasks = h.0; machines = h.1; works = ws; transfers = ts })))))

-- there is no cycle; else the place is the record of the lowest task on one
abbrev pub cycle_test : Description → Result Description GraphFault
cycle_test d =
    if nat_lt (cyclic (described d)) d.tasks
    then Err (Cycle (8 + 6 * cyclic (described d)))
    else Ok d

-- the description that a file holds, or the first fault
abbrev pub parse : List ℕ → Result Description GraphFault
parse bs = and_then (decode bs) cycle_test
