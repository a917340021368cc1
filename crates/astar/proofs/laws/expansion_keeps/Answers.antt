use Rattle.astar.proofs.Expanding.{expansion-keeps}
use Rattle.astar.proofs.laws.expansion_keeps.Goals as goal

pub returns : goal.returns
returns c = expansion-keeps
