use Rattle.std.specs.Prelude.{◌≡◌, ℕ, ◌<◌, ◌≤◌, true, false}
use Rattle.model.specs.Graph.{Graph}
use Rattle.model.specs.Schedule.{Schedule, Feasible}
use Rattle.model.specs.Partial.{Partial, machine_finish}
use Rattle.model.specs.NormalForm.{Renaming}

-- a completion of a partial schedule: a feasible schedule that keeps every placed task and starts
-- each other task no earlier than its machine's finish in the partial schedule
pub record Completion (g : Graph) (s : Partial) (p : Schedule) : Type 0 where
  pub feasible : Feasible g p
  pub keeps : (t : ℕ) → t < g.tasks → s.placed t ≡ true
      → (p.machine t ≡ s.machine t) × (p.start t ≡ s.start t)
  pub later : (t : ℕ) → t < g.tasks → s.placed t ≡ false
      → machine_finish g s (p.machine t) ≤ p.start t

-- a schedule on other machines: each task on the new name of its machine, at its start
abbrev pub on_renamed : {p : ℕ} → Renaming p → Schedule → Schedule
on_renamed π p = record { machine = λ t. π.to (p.machine t); start = p.start }
