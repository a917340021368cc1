use Rattle.std.specs.Prelude.{ℕ, Bool, false, if◌then◌else◌, ◌&&◌, ◌||◌, ◌==◌, nat_lt, List, ◌++◌, length, map, drop, Some, None, Option, Ok, Err, Result}
use Rattle.std.specs.List.{range_with_len}
use Rattle.model.specs.Graph.{Graph}
use Rattle.model.specs.Partial.{Partial, whole}
use Rattle.model.specs.Nodes.{SearchNode, node_at}
use Rattle.model.specs.Soundness.{is_complete}
use Rattle.partial.specs.declared.placement.Placement.{Placement}
use Rattle.queue.specs.declared.entry.Entry.{Entry}
use Rattle.schedule.specs.declared.fault.CheckFault.{CheckFault}
use Rattle.schedule.specs.Check.{judged}
use Rattle.astar.specs.declared.sizes.Sizes.{Sizes}
use Rattle.astar.specs.States.{SearchState, best_length}
use Rattle.astar.specs.Advance.{is_own}
use Rattle.astar.specs.Laws.{floor}
use Rattle.search.specs.declared.fault.SearchFault.{SearchFault}
use Rattle.search.specs.declared.fault.SearchFault.TheVariants as faults
use Rattle.search.specs.declared.fault.PageFault.{PageFault}
use Rattle.search.specs.declared.fault.PageFault.TheVariants as page_faults

-- Why each call is refused, if it is: by the first test that applies.

-- open: the table has fewer than 2 or more than 1,048,576 nodes; the list is not empty, or it cannot hold an entry
-- for each node
abbrev pub open_fault : List SearchNode → List Entry → ℕ → Option SearchFault
open_fault ns bag limit =
    if nat_lt (length ns) 2 || nat_lt 1048576 (length ns)
    then Some faults.Table
    else if nat_lt 0 (length bag) || nat_lt limit (length ns) then Some faults.List else None

-- floor: the memory is not this search's
abbrev pub floor_fault : Graph → Sizes → SearchState → ℕ → Option SearchFault
floor_fault g z w limit = if is_own g z w limit then None else Some faults.Foreign

-- settle: the memory is not this search's, or the floor is below the best length
abbrev pub settle_fault : Graph → Sizes → SearchState → ℕ → Option SearchFault
settle_fault g z w limit =
    if is_own g z w limit
    then (if nat_lt (floor w) (best_length w) then Some faults.Unsettled else None)
    else Some faults.Foreign

-- the check passes a schedule with this makespan
abbrev pub passes_with : Result ℕ CheckFault → ℕ → Bool
passes_with (Ok v) y = v == y
passes_with (Err e) y = false

-- a node holds a complete schedule that the check passes, and its bound is its makespan
abbrev pub is_best : Graph → SearchNode → Bool
is_best g x = is_complete g x.partial && passes_with (judged g (whole x.partial)) x.bound

-- the memory is this search's, and node 0 holds a schedule with its makespan
abbrev pub has_best : Graph → Sizes → SearchState → ℕ → Bool
has_best g z w limit = is_own g z w limit && is_best g (node_at w.nodes 0)

-- best: the memory is not this search's, node 0 does not hold a schedule with its makespan, or the buffer has fewer
-- rows than the graph has tasks
abbrev pub best_fault : Graph → Sizes → SearchState → ℕ → ℕ → Option PageFault
best_fault g z w limit room =
    if has_best g z w limit
    then (if nat_lt room g.tasks then Some page_faults.Short else None)
    else Some (page_faults.Search faults.Foreign)

-- what a call answers that is not refused, or the refusal
abbrev pub answer_or : {A E : Type 0} → A → Option E → Result A E
answer_or x None = Ok x
answer_or x (Some e) = Err e

-- a value that a call leaves if it is refused, and another if it is not
abbrev pub left_or : {A E : Type 0} → A → A → Option E → A
left_or new old None = new
left_or new old (Some e) = old

-- where task t is placed
abbrev pub row_of : Partial → ℕ → Placement
row_of s t = record { machine = s.machine t; start = s.start t }

-- a buffer of rows with those of the tasks below n in front, and the rest as it was
abbrev pub rows_below : Partial → ℕ → List Placement → List Placement
rows_below s n rows = map (row_of s) (range_with_len 0 n) ++ drop n rows

-- a row for each task in front
abbrev pub with_rows : Graph → Partial → List Placement → List Placement
with_rows g s rows = rows_below s g.tasks rows
