use Rattle.std.proofs.Common.{sym}
use Rattle.planner.proofs.explanation.write_work.Goals as goal

pub returns : goal.returns
returns g c = rw (sym c.task_at-task.ensures, sym c.number-work.ensures.value) c.write.ensures.bytes
