use Rattle.astar.proofs.Advancing.{advance-keeps}
use Rattle.astar.proofs.laws.advance_keeps.Goals as goal

pub returns : goal.returns
returns c = advance-keeps
