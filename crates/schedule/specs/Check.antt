use Rattle.std.specs.Prelude.{ℕ, ◌+◌, Bool, if◌then◌else◌, not, ◌&&◌, List, length, Some, None, Option, Ok, Err, Result, ◌==◌, nat_le, nat_lt}
use Rattle.model.specs.Range.{any, lowest}
use Rattle.model.specs.Graph.{Graph}
use Rattle.model.specs.Schedule.{Schedule, delay, makespan}
use Rattle.loader.specs.declared.transfer.Transfer.{Transfer}
use Rattle.partial.specs.declared.placement.Placement.{Placement}
use Rattle.schedule.specs.declared.fault.CheckFault.{CheckFault}
use Rattle.schedule.specs.declared.fault.CheckFault.TheVariants as Fault
use Rattle.schedule.specs.Rows.{schedule_of}

-- row t has a machine that the graph lacks, or a start above 64,000
abbrev pub wrong : Graph → Schedule → ℕ → Bool
wrong g p t = not (nat_lt (p.machine t) g.machines && nat_le (p.start t) 64000)

-- transfer k leads to task t, which starts before its data arrives
abbrev pub hasty : Graph → Schedule → ℕ → ℕ → Bool
hasty g p t k =
    g.to k == t
    && nat_lt (p.start (g.to k))
    (p.start (g.from k) + g.work (g.from k) + delay g k (p.machine (g.from k)) (p.machine (g.to k)))

-- the same of a transfer itself
abbrev pub transfer_hasty : Graph → Schedule → ℕ → Transfer → Bool
transfer_hasty g p t e =
    e.to == t
    && nat_lt (p.start e.to)
    (p.start e.from + g.work e.from + (if p.machine e.from == p.machine e.to then 0 else e.cost))

-- task t starts before the data of some transfer arrives
abbrev pub early : Graph → Schedule → ℕ → Bool
early g p t = any g.count (hasty g p t)

-- t and u are two tasks that run at once on one machine
abbrev pub collide : Graph → Schedule → ℕ → ℕ → Bool
collide g p t u =
    not (u == t)
    && (p.machine u == p.machine t
    && (nat_lt (p.start t) (p.start u + g.work u)
    && nat_lt (p.start u) (p.start t + g.work t)))

-- task t runs while another runs on its machine
abbrev pub overlaps : Graph → Schedule → ℕ → Bool
overlaps g p t = any g.tasks (collide g p t)

-- the lowest row out of range, the lowest task that starts too early, the lowest that overlaps
abbrev pub wrong_row : Graph → Schedule → Option ℕ
wrong_row g p = lowest g.tasks (wrong g p)

abbrev pub early_task : Graph → Schedule → Option ℕ
early_task g p = lowest g.tasks (early g p)

abbrev pub overlapping_task : Graph → Schedule → Option ℕ
overlapping_task g p = lowest g.tasks (overlaps g p)

-- the refusal names the first rule that is broken and the lowest task that breaks it;
-- without one the answer is the makespan
abbrev pub verdict : Option ℕ → Option ℕ → Option ℕ → ℕ → Result ℕ CheckFault
verdict (Some t) early overlap v = Err (Fault.Rows t)
verdict None (Some t) overlap v = Err (Fault.Early t)
verdict None None (Some t) v = Err (Fault.Overlap t)
verdict None None None v = Ok v

-- the verdict on one row for each task
abbrev pub judged : Graph → Schedule → Result ℕ CheckFault
judged g p = verdict (wrong_row g p) (early_task g p) (overlapping_task g p) (makespan g p)

-- the check: as many rows as tasks, rows in range, no task too early, no two at once
abbrev pub checked : Graph → List Placement → Result ℕ CheckFault
checked g rows =
    if length rows == g.tasks then judged g (schedule_of rows) else Err (Fault.Rows g.tasks)
