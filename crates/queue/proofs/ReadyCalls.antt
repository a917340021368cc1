use Rattle.std.proofs.Common.{◌≡◌, List, Option}
use Rattle.bag.specs.Bag.{first, rest, InOrder}
use Rattle.bag.proofs.Pairs.{not-below}
use Rattle.queue.specs.Bags.{Takes}
use Rattle.queue.specs.ReadyTasks.{ready_before, ReadyLeads}
use Rattle.queue.specs.ReadyOrder.{tasks-ordered}
use Rattle.queue.specs.declared.ready.ReadyTask.{ReadyTask}
use Rattle.queue.proofs.Calls as calls

pub takes : (b c : List ReadyTask) (r : Option ReadyTask) → r ≡ first b → c ≡ rest b → InOrder ready_before b → Takes ReadyLeads b r c
takes = calls.takes ready_before tasks-ordered ReadyLeads (λ x y h. not-below x.level y.task y.level x.task h)
