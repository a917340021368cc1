use Rattle.std.specs.Prelude.{◌≡◌, ◌≢◌, ℕ, ◌<◌, Bool, if◌then◌else◌, ◌==◌, Some, None, Option}
use Rattle.model.specs.Graph.{Graph}
use Rattle.astar.specs.Endings.{Spent, Cramped}
use Rattle.search.specs.Runs.{Moment}
use Rattle.search.specs.Promise.{floor, length}
use Rattle.solve.specs.declared.solve.Solved.{Solved}
use Rattle.solve.specs.declared.solve.Solved.TheVariants.{Shortest, Open}
use Rattle.solve.specs.Solving.{would_settle}
use Rattle.planner.specs.declared.limit.Limit.{Limit}
use Rattle.planner.specs.declared.limit.Limit.TheVariants.{Budget, Nodes}

-- how many nodes a search has expanded
abbrev pub expanded_in : Solved → ℕ
expanded_in (Shortest d) = d.search.tally.expanded
expanded_in (Open s) = s.tally.expanded

-- what ended a search that is not settled, by whether it is, how many nodes it has expanded, and its budget
abbrev pub limit_of : Bool → ℕ → ℕ → Option Limit
limit_of settled expanded budget =
    if settled then None else Some (if expanded == budget then Budget else Nodes)

-- the same at the moment where it ended
abbrev pub limit_at : Graph → ℕ → Moment → Option Limit
limit_at g budget m = limit_of (would_settle g m) m.state.tally.expanded budget

-- what it says: the floor has met the length; or it lies below, and as many nodes were expanded as the budget allows, or
-- not so many, and fewer nodes are unused than the next node has children
abbrev pub EndedBy : Graph → ℕ → Moment → Option Limit → Type 0
EndedBy g budget m None = floor m ≡ length m
EndedBy g budget m (Some Budget) = (floor m < length m) × Spent budget m.state
EndedBy g budget m (Some Nodes) =
    (floor m < length m) × (m.state.tally.expanded ≢ budget) × Cramped g m.state
