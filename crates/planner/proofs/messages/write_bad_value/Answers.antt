use Rattle.std.proofs.Common.{sym}
use Rattle.planner.proofs.messages.write_bad_value.Goals as goal

pub returns : goal.returns
returns g c = rw (sym c.name-option.ensures, sym c.range-range.ensures, sym c.usage-usage.ensures) c.write.ensures.bytes
