use Rattle.std.proofs.Common.{◌≡◌}
use Rattle.loader.specs.Meaning.{the_graph}
use Rattle.partial.specs.Meaning.{the_partial}
use Rattle.queue.specs.ReadyBags.{ready_bag}
use Rattle.schedule.specs.Waiting.{released}
use Rattle.schedule.proofs.waiting.WaitingTasks.release.Given as goal

abbrev pub invariant-loop-e : goal.invariant-loop-e
invariant-loop-e l = ready_bag l.self.heap ≡ released (the_graph l.g) (the_partial l.q) l.t l.e-index (ready_bag l.fn.self.heap)
