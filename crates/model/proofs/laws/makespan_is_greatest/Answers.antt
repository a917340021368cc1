use Rattle.model.proofs.Measuring.{makespan-is-greatest}
use Rattle.model.proofs.laws.makespan_is_greatest.Goals as goal

pub returns : goal.returns
returns c = makespan-is-greatest
