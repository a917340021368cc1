use Rattle.queue.specs.Heaps.{bag_of}
use Rattle.queue.specs.Entries.{entry_before}
use Rattle.queue.proofs.Calls.{adds, has_room}
use Rattle.queue.proofs.Unchanged.{same_entries}
use Rattle.queue.proofs.entry_heap.EntryHeapOpenList.put.Goals as goal

pub returns-clause-is : goal.returns-clause-is
returns-clause-is c = has_room entry_before c.args.self.now.heap c.push.result c.push.ensures.is

pub returns-clause-adds : goal.returns-clause-adds
returns-clause-adds c = adds entry_before c.args.e (bag_of entry_before c.args.self.now.heap) (bag_of entry_before c.push.new.self) c.push.result c.push.ensures.bag

pub returns-clause-refused : goal.returns-clause-refused
returns-clause-refused c = λ e. same_entries _ c.args.self.now (c.push.ensures.refused e)
