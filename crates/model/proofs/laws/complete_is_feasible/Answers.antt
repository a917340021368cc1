use Rattle.model.proofs.Starts.{reachable-feasible}
use Rattle.model.proofs.laws.complete_is_feasible.Goals as goal

pub returns : goal.returns
returns c = λ g s L R full. reachable-feasible g L R full
