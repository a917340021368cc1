use Rattle.std.specs.Prelude.{◌≡◌, ℕ, ◌<◌, ◌≤◌, ◌≢◌, Bool, true, None, ◌↔◌}
use Rattle.model.specs.Graph.{Graph}
use Rattle.model.specs.Schedule.{Schedule, Feasible, makespan}
use Rattle.model.specs.Bounds.{Bound, IsLowerBound}
use Rattle.astar.specs.declared.outcome.Outcome.TheVariants.{Strange, Met}
use Rattle.astar.specs.States as states
use Rattle.astar.specs.Invariant.{Distinct, Rooted}
use Rattle.astar.specs.Laws as laws
use Rattle.astar.specs.Advance.{advanced}
use Rattle.search.specs.Calls.{best_fault, floor_fault}
use Rattle.search.specs.Runs.{Moment, onward, Run, Since, Settles}

-- what floor answers
abbrev pub floor : Moment → ℕ
floor m = laws.floor m.state

-- the schedule that best writes, and its length
abbrev pub best : Moment → Schedule
best m = states.best_schedule m.state

abbrev pub length : Moment → ℕ
length m = states.best_length m.state

-- no feasible schedule is shorter than p
abbrev pub IsShortest : Graph → Schedule → Type 0
IsShortest g p = Feasible g p × ((q : Schedule) → Feasible g q → makespan g p ≤ makespan g q)

-- the promise, after open and after each call of a run
pub record Promise (g : Graph) (b : Bound) (done : Bool) (m : Moment) : Type 0 where
  -- no feasible schedule is shorter than the floor
  pub bounded : (p : Schedule) → Feasible g p → floor m ≤ makespan g p
  -- the best schedule is feasible, and as long as the search says
  pub feasible : Feasible g (best m)
  pub as_long : makespan g (best m) ≡ length m
  -- settle is accepted exactly when floor and best length are equal, and then the best schedule is shortest
  pub settles : Settles g m ↔ (floor m ≡ length m)
  pub shortest : Settles g m → IsShortest g (best m)
  pub settled : done ≡ true → Settles g m
  -- after a call of advance that answers Met settle is accepted, and where it is refused the floor is below the best length
  pub meets : (k : ℕ) → (advanced g b m.sizes m.limit k m.state).1 ≡ Met → Settles g (onward g b k m)
  pub unsettled : (Settles g m → ⊥) → floor m < length m
  -- no two used nodes above 0 are duplicates, and node 0 does not wait; node 1 holds the empty partial schedule, with the
  -- rule's number for it as its bound
  pub apart : Distinct m.state
  pub root : Rooted g b m.state
  -- the memory is never foreign, and advance never answers Strange
  pub answers : floor_fault g m.sizes m.state m.limit ≡ None
  pub writes : best_fault g m.sizes m.state m.limit g.tasks ≡ None
  pub never : (k : ℕ) → (advanced g b m.sizes m.limit k m.state).1 ≢ Strange

-- since an earlier point of a run the floor has not fallen and the best length has not risen
abbrev pub Onward : Moment → Moment → Type 0
Onward m n = (floor m ≤ floor n) × (length n ≤ length m)

-- the promise over whole runs
pub record KeptInRuns (g : Graph) (b : Bound) : Type 0 where
  pub promise : (done : Bool) (m : Moment) → Run g b done m → Promise g b done m
  pub onward : (done : Bool) (m n : Moment) → Run g b done m → Since g b m n → Onward m n

-- for every lawful lower bound
abbrev pub Promised : Graph → Type 0
Promised g = (b : Bound) → IsLowerBound b → KeptInRuns g b

-- a moment of some run, under some lawful lower bound
abbrev pub InRun : Graph → Bool → Moment → Type 0
InRun g done m = (b : Bound) × IsLowerBound b × Run g b done m
