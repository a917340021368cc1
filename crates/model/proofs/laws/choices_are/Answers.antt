use Rattle.model.proofs.Choosing.{choices-are}
use Rattle.model.proofs.Ordering.{choices-ordered}
use Rattle.model.proofs.laws.choices_are.Goals as goal

pub returns : goal.returns
returns c = record {
  which = choices-are;
  order = choices-ordered;
}
