use Rattle.std.proofs.Common.{◌∙◌}
use Rattle.queue.specs.Entries.{entry_before}
use Rattle.queue.proofs.Calls.{counted}
use Rattle.queue.proofs.entry_heap.EntryHeapOpenList.count.Goals as goal

pub returns-clause-is : goal.returns-clause-is
returns-clause-is c = c.len.ensures ∙ counted entry_before c.args.self.now.heap
