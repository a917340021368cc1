use Rattle.model.proofs.Measuring.{load-is-least}
use Rattle.model.proofs.laws.load_is_least.Goals as goal

pub returns : goal.returns
returns c = load-is-least
