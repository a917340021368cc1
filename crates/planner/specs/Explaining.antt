use Rattle.std.specs.Prelude.{ℕ, ◌+◌, ◌-◌, ◌*◌, ◌/◌, Bool, if◌then◌else◌, ◌==◌, nat_lt, nat_le, ◌&&◌, List, ◌++◌, length, codes, decimal}
use Rattle.loader.specs.Bytes.{word_at}
use Rattle.refusal.specs.declared.refusal.Refusal.{Refusal}

-- A refusal of a file in words: which record, which number, and what is allowed there.

-- the record at byte i
abbrev pub record_text : ℕ → List ℕ
record_text i = codes "file: the record at byte " ++ decimal i

-- the number of tasks that a file tells
abbrev pub tasks_told : List ℕ → ℕ
tasks_told bs = word_at bs 4

-- the record at byte i belongs to a task, by the number of tasks that the file tells
abbrev pub is_task : List ℕ → ℕ → Bool
is_task bs i = nat_lt i (8 + 6 * tasks_told bs)

-- the task whose record is at byte i
abbrev pub task_of : ℕ → ℕ
task_of i = (i - 8) / 6

-- no first record: the input does not begin as a run file does
abbrev pub no_run_file : List ℕ
no_run_file = codes "file: this does not look like a run file, which begins with a record of kind 1 and 8 bytes\n"

-- number 2: which kinds are due
abbrev pub kind_text : List ℕ → ℕ → List ℕ
kind_text bs i =
    record_text i ++ (codes " is of kind " ++ (decimal (word_at bs (i + 2))
    ++ (if is_task bs i
    then codes ", where a task (kind 2) is due\n"
    else codes ", where a transfer (kind 3) or the end (kind 4) is due\n")))

-- number 3: how long the payload of a task, a transfer and the end is
abbrev pub length_due : ℕ → ℕ
length_due kind = if kind == 2 then 2 else if kind == 3 then 6 else 0

abbrev pub length_text : List ℕ → ℕ → List ℕ
length_text bs i =
    record_text i ++ (codes " is of kind " ++ (decimal (word_at bs (i + 2))
    ++ (codes " with a payload of " ++ (decimal (word_at bs i)
    ++ (codes " bytes, where " ++ (decimal (length_due (word_at bs (i + 2))) ++ codes " are due\n"))))))

-- number 4: which numbers are out of range
abbrev pub sizes_text : List ℕ → List ℕ
sizes_text bs =
    codes "file: there are " ++ (decimal (word_at bs 4) ++ (codes " tasks and " ++ (decimal (word_at bs 6)
    ++ codes " machines, where 1 to 32 tasks and 1 to 8 machines are allowed\n")))

abbrev pub work_text : List ℕ → ℕ → List ℕ
work_text bs i =
    record_text i ++ (codes " gives task " ++ (decimal (task_of i) ++ (codes " the work " ++ (decimal (word_at bs (i + 4))
    ++ codes ", where 1 to 1000 is allowed\n"))))

abbrev pub ends_text : List ℕ → ℕ → List ℕ
ends_text bs i =
    record_text i ++ (codes " is a transfer from task " ++ (decimal (word_at bs (i + 4))
    ++ (codes " to task " ++ (decimal (word_at bs (i + 6)) ++ (codes " of cost " ++ (decimal (word_at bs (i + 8))
    ++ (codes ", where two different tasks below " ++ (decimal (tasks_told bs)
    ++ codes " and a cost of 0 to 1000 are allowed\n"))))))))

abbrev pub range_text : List ℕ → ℕ → List ℕ
range_text bs i =
    if i == 0 then sizes_text bs else if is_task bs i then work_text bs i else ends_text bs i

-- number 6: which pair came before
abbrev pub twice_text : List ℕ → ℕ → List ℕ
twice_text bs i =
    record_text i ++ (codes " is a second transfer from task " ++ (decimal (word_at bs (i + 4))
    ++ (codes " to task " ++ (decimal (word_at bs (i + 6)) ++ codes "\n"))))

-- number 8: the task that lies on a cycle
abbrev pub cycle_text : ℕ → List ℕ
cycle_text i =
    codes "file: the transfers lead from task " ++ (decimal (task_of i) ++ codes " back to itself\n")

-- a refusal in words, by its number and place
abbrev pub told : List ℕ → ℕ → ℕ → List ℕ
told bs n i =
    if i == 0 && nat_le n 3 then no_run_file
    else if n == 1 then codes "file: it ends before the record at byte " ++ (decimal i ++ codes " is complete\n")
    else if n == 2 then kind_text bs i
    else if n == 3 then length_text bs i
    else if n == 4 then range_text bs i
    else if n == 5 then record_text i ++ codes " is a transfer too many: 128 are allowed\n"
    else if n == 6 then twice_text bs i
    else if n == 7 then codes "file: bytes follow the last record, from byte " ++ (decimal i ++ codes " on\n")
    else if n == 8 then cycle_text i
    else codes ""

-- the refusal of a file in words; nothing, where the place lies past the end of the bytes, as it does in no refusal of theirs
abbrev pub explained : List ℕ → Refusal → List ℕ
explained bs r = if nat_lt (length bs) r.place then codes "" else told bs r.number r.place
