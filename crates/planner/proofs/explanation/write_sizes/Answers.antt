use Rattle.std.proofs.Common.{sym}
use Rattle.planner.proofs.explanation.write_sizes.Goals as goal

pub returns : goal.returns
returns g c = rw (sym c.number-tasks.ensures.value, sym c.number-machines.ensures.value) c.write.ensures.bytes
