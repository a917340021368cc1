use Rattle.std.proofs.Common.{sym}
use Rattle.planner.proofs.messages.write_no_option.Goals as goal

pub returns : goal.returns
returns g c = rw (sym c.usage-usage.ensures) c.write.ensures.bytes
