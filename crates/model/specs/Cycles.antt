use Rattle.std.specs.Prelude.{ℕ, zero, suc, ◌<◌, Bool, ◌&&◌, ◌||◌, ◌==◌}
use Rattle.model.specs.Range.{any, first}
use Rattle.model.specs.Graph.{Graph, OnCycle}

-- whether a transfer leads from a to b
abbrev pub joined : Graph → ℕ → ℕ → Bool
joined g a b = any g.count (λ k. (g.from k == a) && g.to k == b)

-- whether a chain leads from a to b whose inner tasks are all below n
abbrev pub reach : Graph → ℕ → ℕ → ℕ → Bool
reach g zero a b = joined g a b
reach g (suc n) a b = reach g n a b || (reach g n a n && reach g n n b)

-- the test for a cycle: the lowest task that reaches itself, or the number of tasks
abbrev pub cyclic : Graph → ℕ
cyclic g = first g.tasks (λ t. reach g g.tasks t t)

-- the lowest task that lies on a cycle
abbrev pub LowestOnCycle : Graph → ℕ → Type 0
LowestOnCycle g t = (t < g.tasks) × OnCycle g t × ((u : ℕ) → u < t → OnCycle g u → ⊥)
