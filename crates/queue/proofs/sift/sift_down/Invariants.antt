use Rattle.std.proofs.Common.{◌-◌}
use Rattle.queue.specs.Slots.{Rearranged}
use Rattle.queue.proofs.Sifting.{Sinking}
use Rattle.queue.proofs.sift.sift_down.Given as goal

abbrev pub invariant-loop-child : goal.invariant-loop-child
invariant-loop-child g l = Sinking g.T.TotalOrder.before l.s l.«at» l.n × Rearranged l.n l.initial.s l.s

abbrev pub decreases-loop-child : goal.decreases-loop-child
decreases-loop-child g l = l.n - l.«at»
