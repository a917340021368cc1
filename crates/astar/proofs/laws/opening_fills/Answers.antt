use Rattle.astar.proofs.Starting.{opening-fills}
use Rattle.astar.proofs.laws.opening_fills.Goals as goal

pub returns : goal.returns
returns c = opening-fills
