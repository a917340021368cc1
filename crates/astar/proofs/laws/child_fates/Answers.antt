use Rattle.astar.proofs.Fates.{child-fates}
use Rattle.astar.proofs.laws.child_fates.Goals as goal

pub returns : goal.returns
returns c = child-fates
