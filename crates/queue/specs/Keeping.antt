use Rattle.std.specs.Prelude.{◌≡◌, ℕ, ◌≤◌, List, length, slice_index_or}
use Rattle.bag.specs.Bag.{insert, rest}
use Rattle.queue.specs.declared.entry.Entry.{Entry}
use Rattle.queue.specs.declared.entry_heap.EntryHeap.{EntryHeap}
use Rattle.queue.specs.Entries.{entry_before}
use Rattle.queue.specs.Heaps.{slots_of, bag_of, SlotsKept}

-- what any number of puts and takes keep, one after the other, of which each keeps something, while after each put the
-- list holds at most `most` entries: a put adds an entry to the bag, a take leaves it without the one that comes first
pub data Kept {A : Type 0} (bag : A → List Entry) (Keeps : A → A → Type 0) (most : ℕ) (a : A) : A → Type 0 where
  none : Kept bag Keeps most a a
  put : {b c : A} (e : Entry) → Kept bag Keeps most a b → Keeps b c
      → bag c ≡ insert entry_before e (bag b) → length (bag c) ≤ most → Kept bag Keeps most a c
  take : {b c : A} → Kept bag Keeps most a b → Keeps b c → bag c ≡ rest (bag b)
      → Kept bag Keeps most a c

-- so a heap that never holds more than `most` entries leaves the slots from there on as they were
abbrev pub SlotsBehindKept : Type 0
SlotsBehindKept = (a b : EntryHeap) (most : ℕ) → length (bag_of entry_before a.heap) ≤ most
    → Kept (λ s. bag_of entry_before s.heap) (λ s t. SlotsKept s.heap t.heap) most a b
    → (k : ℕ) (d : Entry) → most ≤ k
    → slice_index_or (slots_of b.heap) k d ≡ slice_index_or (slots_of a.heap) k d
