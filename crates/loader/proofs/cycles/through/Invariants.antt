use Rattle.std.proofs.Common.{◌≡◌, ℕ, ◌<◌, ◌≤◌, ◌&&◌, ◌||◌, [], length, get_or}
use Rattle.loader.specs.Tables.{each_task, entry}
use Rattle.loader.proofs.cycles.through.Given as goal

abbrev pub invariant-loop-row : goal.invariant-loop-row
invariant-loop-row l = (length l.row-items ≡ 32)
    × ((k : ℕ) → k < l.row-index → get_or l.row-items k [] ≡ each_task (λ b. entry l.old k b || (entry l.old k l.mid && entry l.old l.mid b)))
    × ((k : ℕ) → l.row-index ≤ k → get_or l.row-items k [] ≡ get_or l.old k [])
