use Rattle.astar.proofs.Ending.{advance-ends}
use Rattle.astar.proofs.laws.advance_ends.Goals as goal

pub returns : goal.returns
returns c = advance-ends
