use Rattle.std.specs.Prelude.{◌≡◌, false, ℕ, ◌+◌, ◌-◌, ◌≤◌, max, if◌then◌else◌}
use Rattle.std.specs.Int.{div_ceil}
use Rattle.model.specs.Range.{top, least, sum}
use Rattle.model.specs.Graph.{Graph, Lawful, level}
use Rattle.model.specs.Schedule.{Schedule, makespan}
use Rattle.model.specs.Partial.{Partial, lies_on, is_free, data_ready, machine_finish}
use Rattle.model.specs.Reachable.{Reachable}
use Rattle.model.specs.Completion.{Completion}

-- a number for every graph and partial schedule
abbrev pub Bound : Type 0
Bound = Graph → Partial → ℕ

-- it places no task that the graph lacks
abbrev pub Within : Graph → Partial → Type 0
Within g s = (t : ℕ) → g.tasks ≤ t → s.placed t ≡ false

-- it is a lower bound when no completion of a partial schedule that is reachable, and places no task that the graph
-- lacks, is shorter
abbrev pub IsLowerBound : Bound → Type 0
IsLowerBound b = (g : Graph) (s : Partial) (p : Schedule) → Lawful g → Reachable g s
    → Within g s → Completion g s p → b g s ≤ makespan g p

-- start plus bottom level of a placed task
abbrev pub path_at : Graph → Partial → ℕ → ℕ
path_at g s t = if s.placed t then s.start t + level g t else 0

-- the greatest of all bottom levels and of start plus bottom level over placed tasks
abbrev pub path_bound : Bound
path_bound g s = max (top g.tasks (level g)) (top g.tasks (path_at g s))

-- the work of task u if it is placed on machine m, else 0
abbrev pub work_on : Graph → Partial → ℕ → ℕ → ℕ
work_on g s m u = if lies_on s m u then g.work u else 0

abbrev pub placed_work : Graph → Partial → ℕ → ℕ
placed_work g s m = sum g.tasks (work_on g s m)

-- the idle time of a machine: its finish minus its placed work, at least 0
abbrev pub idle_time : Graph → Partial → ℕ → ℕ
idle_time g s m = machine_finish g s m - placed_work g s m

-- all work and the idle time of every machine
abbrev pub load : Graph → Partial → ℕ
load g s = sum g.tasks g.work + sum g.machines (idle_time g s)

-- what of it the machines take on average, rounded up
abbrev pub load_bound : Bound
load_bound g s = div_ceil (load g s) g.machines

-- the least data ready time of a task on any machine
abbrev pub earliest_data : Graph → Partial → ℕ → ℕ
earliest_data g s t = least g.machines (data_ready g s t)

-- least data ready time plus bottom level of a free task
abbrev pub arrival_at : Graph → Partial → ℕ → ℕ
arrival_at g s t = if is_free g s t then earliest_data g s t + level g t else 0

-- the greatest over free tasks, 0 without free tasks
abbrev pub arrival_bound : Bound
arrival_bound g s = top g.tasks (arrival_at g s)

-- the greater of two
abbrev pub larger : Bound → Bound → Bound
larger a b g s = max (a g s) (b g s)

-- the three joined
abbrev pub joined_bound : Bound
joined_bound = larger (larger path_bound load_bound) arrival_bound
