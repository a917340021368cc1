use Rattle.model.proofs.Covering.{children-cover}
use Rattle.model.proofs.laws.children_cover.Goals as goal

pub returns : goal.returns
returns c = children-cover
