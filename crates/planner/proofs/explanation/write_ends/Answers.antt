use Rattle.std.proofs.Common.{sym}
use Rattle.planner.proofs.explanation.write_ends.Goals as goal

pub returns : goal.returns
returns g c =
    rw (sym c.number-from.ensures.value, sym c.number-to.ensures.value, sym c.number-cost.ensures.value, sym c.number-tasks.ensures.value)
    c.write.ensures.bytes
