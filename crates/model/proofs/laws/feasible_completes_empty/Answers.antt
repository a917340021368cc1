use Rattle.model.proofs.Completions.{empty-completed}
use Rattle.model.proofs.laws.feasible_completes_empty.Goals as goal

pub returns : goal.returns
returns c = empty-completed
