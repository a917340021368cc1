use Rattle.std.specs.Prelude.{◌≡◌, ℕ, ◌<◌, ◌≤◌, Bool, List, take, slice_index_or}
use Rattle.queue.specs.declared.heap.Heap.{Heap}
use Rattle.bag.specs.Bag.{sorted}
use Rattle.queue.specs.Slots.{HeapOrder}

-- what the lent slots hold
abbrev pub slots_of : {X : Type 0} → Heap X → List X
slots_of h = h.slots.now

-- the bag of a heap: what its first slots hold
abbrev pub bag_of : {X : Type 0} → (X → X → Bool) → Heap X → List X
bag_of before h = sorted before (take h.count (slots_of h))

-- a heap in heap order: no entry comes before the one above it
abbrev pub Heaped : {X : Type 0} → (X → X → Bool) → Heap X → Type 0
Heaped before h = HeapOrder before (slots_of h) h.count

-- the arrangement after a call, wherever the entries lie among the slots in use
pub record SlotsKept {X : Type 0} (a b : Heap X) : Type 0 where
  -- the slots that are not in use, before and after, hold what they held
  pub behind : (k : ℕ) (d : X) → a.count ≤ k → b.count ≤ k
      → slice_index_or (slots_of b) k d ≡ slice_index_or (slots_of a) k d
  -- a slot that is given up holds the entry that was taken, which lay in slot 0
  pub given_up : (d : X) → b.count < a.count
      → slice_index_or (slots_of b) b.count d ≡ slice_index_or (slots_of a) 0 d
  -- they are the slots of the same lender
  pub lender : b.slots.ghost_name ≡ a.slots.ghost_name
