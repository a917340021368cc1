use Rattle.astar.proofs.Floor.{best-is-feasible}
use Rattle.astar.proofs.laws.best_is_feasible.Goals as goal

pub returns : goal.returns
returns c = best-is-feasible
