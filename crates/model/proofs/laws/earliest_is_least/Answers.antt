use Rattle.model.proofs.Measuring.{earliest-is-least}
use Rattle.model.proofs.laws.earliest_is_least.Goals as goal

pub returns : goal.returns
returns c = earliest-is-least
