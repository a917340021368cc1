use Rattle.std.specs.Prelude.{◌≡◌, ℕ, ◌+◌, ◌<◌, ◌≤◌, ◌≢◌, ◌⊎◌, List, length, Ok, Err, Result}
use Rattle.model.specs.Graph.{Graph}
use Rattle.model.specs.Schedule.{Schedule, Feasible, delay, makespan}
use Rattle.partial.specs.declared.placement.Placement.{Placement}
use Rattle.schedule.specs.declared.fault.CheckFault.{CheckFault}
use Rattle.schedule.specs.Rows.{schedule_of}

-- one row for each task, and they are a feasible schedule
abbrev pub Passes : Graph → List Placement → Type 0
Passes g rows = (length rows ≡ g.tasks) × Feasible g (schedule_of rows)

-- the lowest number below n of which P holds
abbrev pub Lowest : ℕ → (ℕ → Type 0) → ℕ → Type 0
Lowest n P t = (t < n) × P t × ((u : ℕ) → u < t → P u → ⊥)

-- none below n of which P holds
abbrev pub Nowhere : ℕ → (ℕ → Type 0) → Type 0
Nowhere n P = (t : ℕ) → t < n → P t → ⊥

-- row t is out of range
abbrev pub OutOfRange : Graph → Schedule → ℕ → Type 0
OutOfRange g p t = (g.machines ≤ p.machine t) ⊎ (64000 < p.start t)

-- task t starts before the data of some transfer arrives
abbrev pub TooEarly : Graph → Schedule → ℕ → Type 0
TooEarly g p t =
    (k : ℕ) × (k < g.count) × (g.to k ≡ t)
    × (p.start t
    < p.start (g.from k) + g.work (g.from k) + delay g k (p.machine (g.from k)) (p.machine t))

-- task t runs while another task runs on its machine
abbrev pub Overlapping : Graph → Schedule → ℕ → Type 0
Overlapping g p t =
    (u : ℕ) × (u < g.tasks) × (u ≢ t) × (p.machine u ≡ p.machine t)
    × (p.start t < p.start u + g.work u) × (p.start u < p.start t + g.work t)

-- the check passes exactly the feasible schedules and answers their makespan
abbrev pub Judged : Graph → List Placement → Result ℕ CheckFault → Type 0
Judged g rows (Ok v) = Passes g rows × (v ≡ makespan g (schedule_of rows))
Judged g rows (Err e) = Passes g rows → ⊥
