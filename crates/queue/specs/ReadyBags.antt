use Rattle.std.specs.Prelude.{ℕ, List, length}
use Rattle.queue.specs.Heaps.{slots_of, bag_of}
use Rattle.queue.specs.declared.ready.ReadyTask.{ReadyTask}
use Rattle.queue.specs.declared.ready.ready_heap.ReadyHeap.{ReadyHeap}
use Rattle.queue.specs.ReadyTasks.{ready_before}

-- the tasks that wait in a heap
abbrev pub ready_bag : ReadyHeap → List ReadyTask
ready_bag h = bag_of ready_before h.heap

-- how many tasks can wait in it
abbrev pub ready_room : ReadyHeap → ℕ
ready_room h = length (slots_of h.heap)
