use Rattle.std.specs.Prelude.{ℕ, Bool, true, false, List, Some, None, Option, slice_index_or}
use Rattle.model.specs.Partial.{Partial}
use Rattle.partial.specs.declared.placement.Placement.{Placement}

abbrev pub placed_of : Option Placement → Bool
placed_of None = false
placed_of (Some x) = true

-- machine and start of a task that is not placed are 0
abbrev pub machine_of : Option Placement → ℕ
machine_of None = 0
machine_of (Some x) = x.machine

abbrev pub start_of : Option Placement → ℕ
start_of None = 0
start_of (Some x) = x.start

-- the partial schedule that a list of placements means, task by task
abbrev pub partial_of : List (Option Placement) → Partial
partial_of q = record {
  placed = λ t. placed_of (slice_index_or q t None);
  machine = λ t. machine_of (slice_index_or q t None);
  start = λ t. start_of (slice_index_or q t None);
}
