use Rattle.std.proofs.Common.{◌≡◌}
use Rattle.model.specs.Partial.{is_free}
use Rattle.loader.specs.Meaning.{the_graph}
use Rattle.partial.specs.Meaning.{the_partial}
use Rattle.queue.specs.ReadyBags.{ready_bag}
use Rattle.schedule.specs.Waiting.{tasks_where}
use Rattle.schedule.proofs.waiting.WaitingTasks.enlist_free.Given as goal

abbrev pub invariant-loop-t : goal.invariant-loop-t
invariant-loop-t l = ready_bag l.self.heap ≡ tasks_where (the_graph l.g) (is_free (the_graph l.g) (the_partial l.q)) l.t
