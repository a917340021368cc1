use Rattle.std.specs.Prelude.{◌≡◌, ℕ, ◌+◌, ◌<◌, ◌≤◌, if◌then◌else◌, ◌≢◌, ◌⊎◌, ◌==◌}
use Rattle.model.specs.Range.{top}
use Rattle.model.specs.Graph.{Graph}

-- a schedule gives each task a machine and a start
pub record Schedule : Type 0 where
  pub machine : ℕ → ℕ
  pub start : ℕ → ℕ

-- what transfer k adds between machines a and b: its cost, or nothing on one machine
abbrev pub delay : Graph → ℕ → ℕ → ℕ → ℕ
delay g k a b = if a == b then 0 else g.cost k

-- the greatest finish; a task finishes at its start plus its work
abbrev pub makespan : Graph → Schedule → ℕ
makespan g p = top g.tasks (λ t. p.start t + g.work t)

-- the rules: machines of the graph, starts from 0 to 64,000, no task before its transfers arrive, one task at a time on a machine
pub record Feasible (g : Graph) (p : Schedule) : Type 0 where
  pub on : (t : ℕ) → t < g.tasks → p.machine t < g.machines
  pub starts : (t : ℕ) → t < g.tasks → p.start t ≤ 64000
  pub after : (k : ℕ) → k < g.count
      → p.start (g.from k) + g.work (g.from k)
      + delay g k (p.machine (g.from k)) (p.machine (g.to k)) ≤ p.start (g.to k)
  pub apart : (a b : ℕ) → a < g.tasks → b < g.tasks → a ≢ b → p.machine a ≡ p.machine b
      → (p.start a + g.work a ≤ p.start b) ⊎ (p.start b + g.work b ≤ p.start a)
