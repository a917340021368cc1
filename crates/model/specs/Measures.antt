use Rattle.std.specs.Prelude.{◌≡◌, ℕ, ◌+◌, ◌-◌, ◌*◌, ◌<◌, ◌≤◌, ◌≢◌, ◌⊎◌, true, if◌then◌else◌, ◌&&◌, ◌==◌}
use Rattle.model.specs.Range.{sum}
use Rattle.model.specs.Graph.{Graph, level}
use Rattle.model.specs.Schedule.{Schedule, delay, makespan}
use Rattle.model.specs.Partial.{Partial, Free, data_ready, machine_finish, append}
use Rattle.model.specs.Bounds.{Bound, load_bound, path_bound, earliest_data, arrival_bound, larger}

-- Measures in words: each is the least, or the greatest, of the numbers of which something is so.

pub record Least (P : ℕ → Type 0) (b : ℕ) : Type 0 where
  pub holds : P b
  pub least : (y : ℕ) → P y → b ≤ y

pub record Greatest (P : ℕ → Type 0) (b : ℕ) : Type 0 where
  pub holds : P b
  pub greatest : (y : ℕ) → P y → y ≤ b

-- the makespan is some task's finish, and none is later
abbrev pub MakespanIsGreatest : Type 0
MakespanIsGreatest = (g : Graph) (p : Schedule) → 0 < g.tasks
    → Greatest (λ y. (t : ℕ) × (t < g.tasks) × (y ≡ p.start t + g.work t)) (makespan g p)

-- the work of the tasks that are placed on a machine
abbrev pub work_there : Graph → Partial → ℕ → ℕ
work_there g s m = sum g.tasks (λ u. if s.placed u && s.machine u == m then g.work u else 0)

-- load: the least number of which one for each machine, added up, makes room for all work and idle time; a machine
-- idles for what its finish has over the work placed on it
abbrev pub LoadIsLeast : Type 0
LoadIsLeast = (g : Graph) (s : Partial) → 0 < g.machines
    → Least (λ b. sum g.tasks g.work + sum g.machines (λ m. machine_finish g s m - work_there g s m)
    ≤ g.machines * b) (load_bound g s)

-- path: some task's bottom level, or a placed task's start plus bottom level, and no task has more
abbrev pub PathIsGreatest : Type 0
PathIsGreatest = (g : Graph) (s : Partial) → 0 < g.tasks
    → Greatest (λ y. (t : ℕ) × (t < g.tasks)
    × ((y ≡ level g t) ⊎ ((s.placed t ≡ true) × (y ≡ s.start t + level g t)))) (path_bound g s)

-- the earliest data of a task: its data ready time on some machine, and on none it is less
abbrev pub EarliestIsLeast : Type 0
EarliestIsLeast = (g : Graph) (s : Partial) (t : ℕ) → 0 < g.machines
    → Least (λ y. (m : ℕ) × (m < g.machines) × (y ≡ data_ready g s t m)) (earliest_data g s t)

-- arrival: some free task's earliest data plus bottom level, and no free task has more; 0 where no task is free
abbrev pub ArrivalIsGreatest : Type 0
ArrivalIsGreatest = (g : Graph) (s : Partial)
    → ((t : ℕ) → Free g s t
    → Greatest (λ y. (u : ℕ) × Free g s u × (y ≡ earliest_data g s u + level g u)) (arrival_bound g s))
    × (((t : ℕ) → Free g s t → ⊥) → arrival_bound g s ≡ 0)

-- of two bounds one, and neither is more
abbrev pub LargerIsGreatest : Type 0
LargerIsGreatest = (a b : Bound) (g : Graph) (s : Partial)
    → Greatest (λ y. (y ≡ a g s) ⊎ (y ≡ b g s)) (larger a b g s)

-- a start that is not before the data of task t arrives on machine m, nor before the machine's tasks finish
abbrev pub Late : Graph → Partial → ℕ → ℕ → ℕ → Type 0
Late g s t m v =
    ((k : ℕ) → k < g.count → g.to k ≡ t
    → s.start (g.from k) + g.work (g.from k) + delay g k (s.machine (g.from k)) m ≤ v)
    × ((u : ℕ) → u < g.tasks → s.placed u ≡ true → s.machine u ≡ m → s.start u + g.work u ≤ v)

-- appending puts task t on machine m at the least such start, and leaves every other task as it was
pub record Appended (g : Graph) (s : Partial) (t m : ℕ) (c : Partial) : Type 0 where
  pub placed : c.placed t ≡ true
  pub machine : c.machine t ≡ m
  pub start : Least (Late g s t m) (c.start t)
  pub others : (u : ℕ) → u ≢ t
      → (c.placed u ≡ s.placed u) × (c.machine u ≡ s.machine u) × (c.start u ≡ s.start u)

abbrev pub AppendIsLeast : Type 0
AppendIsLeast = (g : Graph) (s : Partial) (t m : ℕ) → Appended g s t m (append g s t m)
