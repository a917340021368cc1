use Rattle.astar.proofs.Floor.{floor-is-least}
use Rattle.astar.proofs.laws.floor_is_least.Goals as goal

pub returns : goal.returns
returns c = floor-is-least
