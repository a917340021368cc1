use Rattle.model.proofs.Measuring.{larger-is-greatest}
use Rattle.model.proofs.laws.larger_is_greatest.Goals as goal

pub returns : goal.returns
returns c = larger-is-greatest
