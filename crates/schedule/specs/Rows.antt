use Rattle.std.specs.Prelude.{List, slice_index_or}
use Rattle.model.specs.Schedule.{Schedule}
use Rattle.partial.specs.declared.placement.Placement.{Placement}

-- what stands past the last row
abbrev pub blank : Placement
blank = record { machine = 0; start = 0 }

-- the schedule that rows mean: row t is for task t
abbrev pub schedule_of : List Placement → Schedule
schedule_of rows = record {
  machine = λ t. (slice_index_or rows t blank).machine;
  start = λ t. (slice_index_or rows t blank).start;
}
