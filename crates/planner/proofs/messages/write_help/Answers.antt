use Rattle.std.proofs.Common.{sym}
use Rattle.planner.proofs.messages.write_help.Goals as goal

pub returns : goal.returns
returns g c = rw (sym c.usage-usage.ensures, sym c.example-example.ensures) c.write.ensures.bytes
