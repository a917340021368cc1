use Rattle.std.specs.Prelude.{ℕ, zero, suc, ◌<◌, ◌≤◌, Bool, true, false, List, is_none}
use Rattle.model.specs.Graph.{Graph}
use Rattle.model.specs.Schedule.{Schedule, Feasible, makespan}
use Rattle.model.specs.Bounds.{Bound}
use Rattle.model.specs.Nodes.{SearchNode}
use Rattle.queue.specs.declared.entry.Entry.{Entry}
use Rattle.schedule.specs.ListSchedule.{listed}
use Rattle.nodes.specs.declared.table.Table.{Table}
use Rattle.astar.specs.declared.sizes.Sizes.{Sizes}
use Rattle.astar.specs.States.{SearchState}
use Rattle.astar.specs.Opening.{sizes_of, opened}
use Rattle.astar.specs.Advance.{advanced}
use Rattle.solve.specs.declared.solve.Solved.{Solved}
use Rattle.solve.specs.declared.solve.Solved.TheVariants.{Shortest, Open}
use Rattle.search.specs.Calls.{settle_fault}
use Rattle.search.specs.States.{moment}
use Rattle.search.specs.Runs.{Moment, Run}
use Rattle.search.specs.Promise.{floor, best, length, IsShortest}

-- n calls of advance with budget k
abbrev pub advanced_often : Graph → Bound → Sizes → ℕ → ℕ → ℕ → SearchState → SearchState
advanced_often g b z limit k zero w = w
advanced_often g b z limit k (suc n) w =
    (advanced g b z limit k (advanced_often g b z limit k n w)).0

-- the moment after a search was opened and advanced n times with budget k
abbrev pub ended : Graph → Bound → List SearchNode → ℕ → ℕ → ℕ → Moment
ended g b ns limit k n = record {
  sizes = sizes_of g ns;
  state =
      advanced_often g b (sizes_of g ns) limit k n (opened g b (listed g g.tasks) ns);
  limit = limit;
}

-- whether a shortest schedule is known
abbrev pub is_shortest : Solved → Bool
is_shortest (Shortest d) = true
is_shortest (Open s) = false

-- whether settle is accepted
abbrev pub would_settle : Graph → Moment → Bool
would_settle g m = is_none (settle_fault g m.sizes m.state m.limit)

-- the moment that a search and its memory mean
abbrev pub end_of : Table → List Entry → ℕ → Solved → Moment
end_of t bag limit (Shortest d) = moment d.search t bag limit
end_of t bag limit (Open s) = moment s t bag limit

-- settle was accepted: the best schedule is shortest
abbrev pub ShortestAt : Graph → Bound → Moment → Type 0
ShortestAt g b m = Run g b true m × IsShortest g (best m)

-- settle was refused: the floor is below the length of the best schedule, which is feasible, and no feasible schedule
-- is shorter than the floor
abbrev pub OpenAt : Graph → Bound → Moment → Type 0
OpenAt g b m =
    Run g b false m × (floor m < length m) × Feasible g (best m)
    × ((p : Schedule) → Feasible g p → floor m ≤ makespan g p)

-- what is known at the end
abbrev pub Solves : Graph → Bound → Table → List Entry → ℕ → Solved → Type 0
Solves g b t bag limit (Shortest d) = ShortestAt g b (moment d.search t bag limit)
Solves g b t bag limit (Open s) = OpenAt g b (moment s t bag limit)
