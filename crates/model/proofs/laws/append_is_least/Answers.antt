use Rattle.model.proofs.Measuring.{append-is-least}
use Rattle.model.proofs.laws.append_is_least.Goals as goal

pub returns : goal.returns
returns c = append-is-least
