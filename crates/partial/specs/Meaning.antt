use Rattle.std.specs.Prelude.{◌≡◌, ℕ, ◌<◌, ◌≤◌, Some, None, Option}
use Rattle.model.specs.Graph.{Graph}
use Rattle.model.specs.Partial.{Partial, Free, start_on}
use Rattle.partial.specs.declared.partial.PartialSchedule.{PartialSchedule}
use Rattle.partial.specs.Places.{partial_of}

-- the partial schedule that a value means
abbrev pub the_partial : PartialSchedule → Partial
the_partial q = partial_of q.places

-- task t can be appended on machine m: it is free, the machine is one of the graph's,
-- and 32 bits hold the start
abbrev pub Appendable : Graph → Partial → ℕ → ℕ → Type 0
Appendable g s t m = Free g s t × (m < g.machines) × (start_on g s t m ≤ 4294967295)

-- an answer: the partial schedule c exactly where task t can be appended on machine m
abbrev pub Answers : Graph → Partial → ℕ → ℕ → Partial → Option PartialSchedule → Type 0
Answers g s t m c None = Appendable g s t m → ⊥
Answers g s t m c (Some r) = Appendable g s t m × (the_partial r ≡ c)
