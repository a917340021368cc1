use Rattle.std.proofs.Common.{true}
use Rattle.search.proofs.search.Settled.floor.Goals as goal

pub returns-clause-run : goal.returns-clause-run
returns-clause-run g c r = c.floor.ensures.run true r
