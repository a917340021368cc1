use Rattle.std.proofs.Common.{◌≡◌, ℕ, ◌+◌, ◌<◌, length, get_or}
use Rattle.loader.specs.Levels.{greatest_after}
use Rattle.loader.proofs.levels.Tasks.raised.Given as goal

abbrev pub invariant-loop-t : goal.invariant-loop-t
invariant-loop-t l = (length l.next ≡ 32) × ((t : ℕ) → t < l.t → get_or l.next t 0 ≡ get_or l.self.works.now t 0 + greatest_after l.self.transfers.now l.low t)
