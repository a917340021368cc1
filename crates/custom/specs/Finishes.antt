use Rattle.std.specs.Prelude.{ℕ, ◌+◌, if◌then◌else◌}
use Rattle.model.specs.Range.{top}
use Rattle.model.specs.Graph.{Graph}
use Rattle.model.specs.Partial.{Partial}
use Rattle.model.specs.Bounds.{Bound}

-- the finish of task t if it is placed, else 0
abbrev pub finish_at : Graph → Partial → ℕ → ℕ
finish_at g s t = if s.placed t then s.start t + g.work t else 0

-- the latest of them
abbrev pub latest_finish : Bound
latest_finish g s = top g.tasks (finish_at g s)
