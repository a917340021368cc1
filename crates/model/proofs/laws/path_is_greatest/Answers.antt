use Rattle.model.proofs.Measuring.{path-is-greatest}
use Rattle.model.proofs.laws.path_is_greatest.Goals as goal

pub returns : goal.returns
returns c = path-is-greatest
