use Rattle.std.proofs.Common.{take}
use Rattle.queue.specs.Heaps.{slots_of, bag_of}
use Rattle.bag.proofs.Bags.{sorted-in-order}
use Rattle.queue.specs.ReadyTasks.{ready_before}
use Rattle.queue.specs.ReadyOrder.{tasks-ordered}
use Rattle.queue.proofs.ReadyCalls.{takes}
use Rattle.queue.proofs.Unchanged.{same_tasks}
use Rattle.queue.proofs.ready.ready_heap.ReadyHeap.take.Goals as goal

pub returns-clause-takes : goal.returns-clause-takes
returns-clause-takes c =
    let h = c.args.self.now.heap in
    takes (bag_of ready_before h) (bag_of ready_before c.pop.new.self) c.pop.result c.pop.ensures.is c.pop.ensures.bag (sorted-in-order ready_before tasks-ordered (take h.count (slots_of h)))

pub returns-clause-empty : goal.returns-clause-empty
returns-clause-empty c = λ e. same_tasks _ c.args.self.now (c.pop.ensures.empty e)
