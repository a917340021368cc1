use Rattle.astar.proofs.Fates.{expansion-visits-all}
use Rattle.astar.proofs.laws.expansion_visits.Goals as goal

pub returns : goal.returns
returns c = expansion-visits-all
