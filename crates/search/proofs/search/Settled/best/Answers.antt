use Rattle.std.proofs.Common.{true}
use Rattle.search.proofs.Calls.{shortest-run}
use Rattle.search.proofs.search.Settled.best.Goals as goal

pub returns-clause-run : goal.returns-clause-run
returns-clause-run g c r h = ((c.best.ensures.run true r h).0, shortest-run c.args.g.now _ r)
