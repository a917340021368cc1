use Rattle.std.proofs.Common.{◌+◌, ◌≤◌}
use Rattle.queue.specs.Slots.{Rearranged}
use Rattle.queue.proofs.Sifting.{Rising}
use Rattle.queue.proofs.sift.sift_up.Given as goal

abbrev pub invariant-loop-above : goal.invariant-loop-above
invariant-loop-above g l = (l.«at» ≤ l.last) × Rising g.T.TotalOrder.before l.s l.«at» (l.last + 1) × Rearranged (l.last + 1) l.initial.s l.s

abbrev pub decreases-loop-above : goal.decreases-loop-above
decreases-loop-above g l = l.«at»
