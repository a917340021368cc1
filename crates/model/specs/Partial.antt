use Rattle.std.specs.Prelude.{◌≡◌, ℕ, ◌+◌, ◌<◌, ◌≤◌, max, Bool, true, false, if◌then◌else◌, not, ◌&&◌, ◌||◌, ◌≢◌, ◌⊎◌, ◌==◌, nat_lt}
use Rattle.model.specs.Range.{top, every, put}
use Rattle.model.specs.Graph.{Graph}
use Rattle.model.specs.Schedule.{Schedule, delay}

-- a partial schedule gives some tasks a machine and a start
pub record Partial : Type 0 where
  pub placed : ℕ → Bool
  pub machine : ℕ → ℕ
  pub start : ℕ → ℕ

-- nothing is placed
abbrev pub nothing : Partial
nothing = record { placed = λ _. false; machine = λ _. 0; start = λ _. 0 }

-- a partial schedule read as a schedule
abbrev pub whole : Partial → Schedule
whole s = record { machine = s.machine; start = s.start }

abbrev pub Complete : Graph → Partial → Type 0
Complete g s = (t : ℕ) → t < g.tasks → s.placed t ≡ true

abbrev pub Unfinished : Graph → Partial → Type 0
Unfinished g s = (t : ℕ) × (t < g.tasks) × (s.placed t ≡ false)

-- a task is free when it is not placed and all its predecessors are
abbrev pub Free : Graph → Partial → ℕ → Type 0
Free g s t = (t < g.tasks) × (s.placed t ≡ false)
    × ((k : ℕ) → k < g.count → g.to k ≡ t → s.placed (g.from k) ≡ true)

-- transfer k leads elsewhere than to task t, or from a placed task
abbrev pub fed : Graph → Partial → ℕ → ℕ → Bool
fed g s t k = not (g.to k == t) || s.placed (g.from k)

-- the test for a free task: one of the graph that is not placed, while every predecessor is
abbrev pub is_ready : Graph → Partial → ℕ → Bool
is_ready g s t = not (s.placed t) && every g.count (fed g s t)

abbrev pub is_free : Graph → Partial → ℕ → Bool
is_free g s t = nat_lt t g.tasks && is_ready g s t

-- whether task u is placed on machine m
abbrev pub lies_on : Partial → ℕ → ℕ → Bool
lies_on s m u = s.placed u && s.machine u == m

-- the finish of task u if it is placed on machine m, else 0
abbrev pub finish_on : Graph → Partial → ℕ → ℕ → ℕ
finish_on g s m u = if lies_on s m u then s.start u + g.work u else 0

-- the greatest finish of the tasks placed on a machine, or 0
abbrev pub machine_finish : Graph → Partial → ℕ → ℕ
machine_finish g s m = top g.tasks (finish_on g s m)

-- when the data of transfer k arrives for task t on machine m; 0 where it leads elsewhere
abbrev pub arrival : Graph → Partial → ℕ → ℕ → ℕ → ℕ
arrival g s t m k =
    if g.to k == t
    then s.start (g.from k) + g.work (g.from k) + delay g k (s.machine (g.from k)) m
    else 0

-- the data ready time of task t on machine m: the greatest finish of a predecessor plus cost, cost 0 on the same machine; 0 without predecessors
abbrev pub data_ready : Graph → Partial → ℕ → ℕ → ℕ
data_ready g s t m = top g.count (arrival g s t m)

-- where a task starts that is appended on a machine
abbrev pub start_on : Graph → Partial → ℕ → ℕ → ℕ
start_on g s t m = max (data_ready g s t m) (machine_finish g s m)

-- task t put on machine m at a start
abbrev pub place : Partial → ℕ → ℕ → ℕ → Partial
place s t m v = record {
  placed = put s.placed t true;
  machine = put s.machine t m;
  start = put s.start t v;
}

unfoldable pub append : Graph → Partial → ℕ → ℕ → Partial
append g s t m = place s t m (start_on g s t m)

-- the rules, as far as tasks are placed: predecessors are placed too, and what is placed meets the rules of a schedule
pub record Obeys (g : Graph) (s : Partial) : Type 0 where
  pub on : (t : ℕ) → t < g.tasks → s.placed t ≡ true → s.machine t < g.machines
  pub before : (k : ℕ) → k < g.count → s.placed (g.to k) ≡ true → s.placed (g.from k) ≡ true
  pub after : (k : ℕ) → k < g.count → s.placed (g.to k) ≡ true
      → s.start (g.from k) + g.work (g.from k)
      + delay g k (s.machine (g.from k)) (s.machine (g.to k)) ≤ s.start (g.to k)
  pub apart : (a b : ℕ) → a < g.tasks → b < g.tasks → s.placed a ≡ true → s.placed b ≡ true → a ≢ b
      → s.machine a ≡ s.machine b
      → (s.start a + g.work a ≤ s.start b) ⊎ (s.start b + g.work b ≤ s.start a)
