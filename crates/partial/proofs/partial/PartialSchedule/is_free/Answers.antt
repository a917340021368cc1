use Rattle.std.proofs.Common.{arith}
use Rattle.loader.specs.Meaning.{the_graph}
use Rattle.partial.specs.Meaning.{the_partial}
use Rattle.partial.proofs.Deciding.{ready_free}
use Rattle.partial.proofs.partial.PartialSchedule.is_free.Goals as goal

pub returns-then-t-tasks-clause-law : goal.returns-then-t-tasks-clause-law
returns-then-t-tasks-clause-law c = ready_free (the_graph c.args.g.now) (the_partial c.args.self.now) c.args.t c.is_ready.result c.is_ready.ensures (omega arith)
