use Rattle.astar.proofs.Ending.{advance-meets}
use Rattle.astar.proofs.laws.advance_meets.Goals as goal

pub returns : goal.returns
returns c = advance-meets
