use Rattle.std.proofs.Common.{◌≡◌, ℕ, ◌<◌, [], length, get_or}
use Rattle.loader.specs.Tables.{each_task}
use Rattle.loader.specs.View.{leads}
use Rattle.loader.proofs.cycles.direct.Given as goal

abbrev pub invariant-loop-a : goal.invariant-loop-a
invariant-loop-a l = (length l.row-items ≡ 32) × ((k : ℕ) → k < l.a → get_or l.row-items k [] ≡ each_task (leads l.transfers k))
