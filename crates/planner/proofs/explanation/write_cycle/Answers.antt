use Rattle.std.proofs.Common.{sym}
use Rattle.planner.proofs.explanation.write_cycle.Goals as goal

pub returns : goal.returns
returns g c = rw (sym c.task_at-task.ensures) c.write.ensures.bytes
