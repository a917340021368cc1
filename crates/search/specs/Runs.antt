use Rattle.std.specs.Prelude.{◌≡◌, ℕ, Bool, true, false, List, [], None}
use Rattle.model.specs.Graph.{Graph}
use Rattle.model.specs.Bounds.{Bound}
use Rattle.model.specs.Nodes.{SearchNode}
use Rattle.schedule.specs.ListSchedule.{listed}
use Rattle.astar.specs.declared.sizes.Sizes.{Sizes}
use Rattle.astar.specs.States.{SearchState}
use Rattle.astar.specs.Opening as opening
use Rattle.astar.specs.Advance as advance
use Rattle.search.specs.Calls.{open_fault, settle_fault}

-- all that a search stands on between two calls: its counts at opening, its state, and how many entries the list can hold
pub record Moment : Type 0 where
  pub sizes : Sizes
  pub state : SearchState
  pub limit : ℕ

-- after open, which puts the list schedule into node 0
abbrev pub at_open : Graph → Bound → List SearchNode → ℕ → Moment
at_open g b ns limit = record {
  sizes = opening.sizes_of g ns;
  state = opening.opened g b (listed g g.tasks) ns;
  limit = limit;
}

-- after a call of advance with budget k
abbrev pub onward : Graph → Bound → ℕ → Moment → Moment
onward g b k m = record m { state = (advance.advanced g b m.sizes m.limit k m.state).0 }

-- settle is accepted
abbrev pub Settles : Graph → Moment → Type 0
Settles g m = settle_fault g m.sizes m.state m.limit ≡ None

-- a run: an accepted open, whatever the table held, and then any number of calls on one graph, lower bound, table and
-- list; the flag tells whether the search was settled. A call that changes nothing, refused or not, is a step too.
pub data Run (g : Graph) (b : Bound) : Bool → Moment → Type 0 where
  opened : (ns : List SearchNode) (limit : ℕ) → open_fault ns [] limit ≡ None
      → Run g b false (at_open g b ns limit)
  advanced : {m : Moment} (k : ℕ) → Run g b false m → Run g b false (onward g b k m)
  asked : {done : Bool} {m : Moment} → Run g b done m → Run g b done m
  settled : {m : Moment} → Run g b false m → Settles g m → Run g b true m

-- from an earlier point of a run to a later one
pub data Since (g : Graph) (b : Bound) (m : Moment) : Moment → Type 0 where
  same : Since g b m m
  later : {n : Moment} (k : ℕ) → Since g b m n → Since g b m (onward g b k n)
