use Rattle.std.proofs.Common.{sym}
use Rattle.planner.proofs.explanation.write_length.Goals as goal

pub returns : goal.returns
returns g c =
    rw (sym c.number-kind.ensures.value, sym c.number-length.ensures.value, sym c.length_due-due.ensures) c.write.ensures.bytes
