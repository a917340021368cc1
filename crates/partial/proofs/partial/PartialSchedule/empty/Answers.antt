use Rattle.partial.proofs.Filled.{empty_is}
use Rattle.partial.proofs.partial.PartialSchedule.empty.Goals as goal

pub returns : goal.returns
returns c = empty_is
