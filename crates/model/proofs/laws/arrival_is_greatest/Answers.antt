use Rattle.model.proofs.Measuring.{arrival-is-greatest}
use Rattle.model.proofs.laws.arrival_is_greatest.Goals as goal

pub returns : goal.returns
returns c = arrival-is-greatest
