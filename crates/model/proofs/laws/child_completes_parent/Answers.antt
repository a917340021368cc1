use Rattle.model.proofs.Completions.{child-completion}
use Rattle.model.proofs.laws.child_completes_parent.Goals as goal

pub returns : goal.returns
returns c = child-completion
