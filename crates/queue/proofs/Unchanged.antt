use Rattle.std.proofs.Common.{◌≡◌}
use std.HLevel.{prop→path_p}
use denote.Struct.Props.{props}
use Rattle.queue.specs.Heaps.{Heaped}
use Rattle.queue.specs.Entries.{entry_before}
use Rattle.queue.specs.ReadyTasks.{ready_before}
use Rattle.queue.specs.declared.entry_heap.EntryHeap.{EntryHeap}
use Rattle.queue.specs.declared.ready.ready_heap.ReadyHeap.{ReadyHeap}

-- A fact in a type has one proof, so two values are equal where their data are.

pub same_entries : (a b : EntryHeap) → a.heap ≡ b.heap → a ≡ b
same_entries a b e = λ t. record {
  heap = e t;
  heaped = prop→path_p (λ i. Heaped entry_before (e i)) (hlevel props) a.heaped b.heaped t;
}

pub same_tasks : (a b : ReadyHeap) → a.heap ≡ b.heap → a ≡ b
same_tasks a b e = λ t. record {
  heap = e t;
  heaped = prop→path_p (λ i. Heaped ready_before (e i)) (hlevel props) a.heaped b.heaped t;
}
