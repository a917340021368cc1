use Rattle.std.specs.Prelude.{◌≡◌, ℕ, ◌≢◌, List, length}
use Rattle.model.specs.Graph.{Graph}
use Rattle.model.specs.Schedule.{Schedule}
use Rattle.refusal.specs.declared.layer.Layer.TheVariants.{Check}
use Rattle.refusal.specs.declared.refusal.Refusal.{Refusal}
use Rattle.partial.specs.declared.placement.Placement.{Placement}
use Rattle.schedule.specs.Rows.{schedule_of}
use Rattle.schedule.specs.Judged.{Lowest, Nowhere, OutOfRange, TooEarly, Overlapping}

-- the refusals of a schedule, by the first rule that it breaks and the lowest task that breaks it: 13 where a task lies
-- on no machine of the graph or starts after 64,000, 14 where one starts before some data arrives, 15 where two run at
-- once on a machine
pub data Broken (g : Graph) (p : Schedule) : Refusal → Type 0 where
  range : {t : ℕ} → Lowest g.tasks (OutOfRange g p) t
      → Broken g p (record { number = 13; place = t; layer = Check })
  early : {t : ℕ} → Nowhere g.tasks (OutOfRange g p) → Lowest g.tasks (TooEarly g p) t
      → Broken g p (record { number = 14; place = t; layer = Check })
  overlap : {t : ℕ} → Nowhere g.tasks (OutOfRange g p) → Nowhere g.tasks (TooEarly g p)
      → Lowest g.tasks (Overlapping g p) t
      → Broken g p (record { number = 15; place = t; layer = Check })

-- and of rows: 13 where there are not as many as tasks, else those of the schedule that they mean
pub data CheckRefused (g : Graph) (rows : List Placement) : Refusal → Type 0 where
  count : length rows ≢ g.tasks
      → CheckRefused g rows (record { number = 13; place = g.tasks; layer = Check })
  broken : {r : Refusal} → length rows ≡ g.tasks → Broken g (schedule_of rows) r
      → CheckRefused g rows r
