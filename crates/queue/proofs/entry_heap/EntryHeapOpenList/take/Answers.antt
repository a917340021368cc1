use Rattle.std.proofs.Common.{take}
use Rattle.queue.specs.Heaps.{slots_of, bag_of}
use Rattle.bag.proofs.Bags.{sorted-in-order}
use Rattle.queue.specs.Entries.{entry_before}
use Rattle.queue.specs.EntryBags.{entries-ordered}
use Rattle.queue.proofs.EntryCalls.{takes}
use Rattle.queue.proofs.Unchanged.{same_entries}
use Rattle.queue.proofs.entry_heap.EntryHeapOpenList.take.Goals as goal

pub returns-clause-takes : goal.returns-clause-takes
returns-clause-takes c =
    let h = c.args.self.now.heap in
    takes (bag_of entry_before h) (bag_of entry_before c.pop.new.self) c.pop.result c.pop.ensures.is c.pop.ensures.bag (sorted-in-order entry_before entries-ordered (take h.count (slots_of h)))

pub returns-clause-empty : goal.returns-clause-empty
returns-clause-empty c = λ e. same_entries _ c.args.self.now (c.pop.ensures.empty e)
