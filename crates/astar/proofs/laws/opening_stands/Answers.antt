use Rattle.astar.proofs.Starting.{opening-stands}
use Rattle.astar.proofs.laws.opening_stands.Goals as goal

pub returns : goal.returns
returns c = opening-stands
