use Rattle.astar.proofs.Floor.{floor-holds}
use Rattle.astar.proofs.laws.floor_holds.Goals as goal

pub returns : goal.returns
returns c = floor-holds
