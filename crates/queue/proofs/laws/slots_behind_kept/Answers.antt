use Rattle.queue.proofs.Behind.{slots-behind-kept}
use Rattle.queue.proofs.laws.slots_behind_kept.Goals as goal

pub returns : goal.returns
returns c = slots-behind-kept
