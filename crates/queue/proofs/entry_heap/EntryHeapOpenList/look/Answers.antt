use Rattle.queue.specs.Heaps.{slots_of, bag_of}
use Rattle.queue.specs.Entries.{entry_before}
use Rattle.queue.specs.EntryBags.{slots-ordered}
use Rattle.queue.proofs.EntryCalls.{shows}
use Rattle.queue.proofs.entry_heap.EntryHeapOpenList.look.Goals as goal

pub returns-clause-shows : goal.returns-clause-shows
returns-clause-shows c = let h = c.args.self.now.heap in shows (bag_of entry_before h) c.peek.result c.peek.ensures (slots-ordered (slots_of h) h.count)
