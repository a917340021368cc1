use Rattle.loader.proofs.Laws.{levels-bottom}
use Rattle.loader.proofs.graph.TaskGraph.bottom_levels.Goals as goal

pub returns-clause-law : goal.returns-clause-law
returns-clause-law c = levels-bottom c.args.self.now
