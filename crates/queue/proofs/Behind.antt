use Rattle.std.proofs.Common.{◌≡◌, ℕ, ◌≤◌, List, [], ◌∷◌, length, get_or, refl, ap, ◌∙◌, arith}
use Rattle.bag.specs.Bag.{rest}
use Rattle.queue.specs.declared.entry.Entry.{Entry}
use Rattle.queue.specs.declared.entry_heap.EntryHeap.{EntryHeap}
use Rattle.queue.specs.Entries.{entry_before}
use Rattle.queue.specs.Heaps.{slots_of, bag_of, SlotsKept}
use Rattle.queue.specs.Keeping.{Kept, SlotsBehindKept}
use Rattle.queue.specs.Keeping.Kept.{none, put, take}
use Rattle.queue.proofs.Calls.{counted}

-- The slots behind the most entries that a heap held.

rest-length : (b : List Entry) → length (rest b) ≤ length b
rest-length [] = omega arith
rest-length (x ∷ b) = omega arith

module _ (a : EntryHeap) (most : ℕ) (few : length (bag_of entry_before a.heap) ≤ most) where
  -- no more entries, and the slots behind them as they were
  abbrev So : EntryHeap → Type 0
  So b = (length (bag_of entry_before b.heap) ≤ most) × ((k : ℕ) (d : Entry) → most ≤ k → get_or (slots_of b.heap) k d ≡ get_or (slots_of a.heap) k d)

  one-more : (b c : EntryHeap) → So b → SlotsKept b.heap c.heap → length (bag_of entry_before c.heap) ≤ most → So c
  one-more b c x s h = (
    h,
    λ k d l. s.behind k d (omega (arith, l, x.0, counted entry_before b.heap)) (omega (arith, l, h, counted entry_before c.heap)) ∙ x.1 k d l,
  )

  so : (b : EntryHeap) → Kept (λ s. bag_of entry_before s.heap) (λ s t. SlotsKept s.heap t.heap) most a b → So b
  so b none = (few, λ k d l. refl)
  so c (put {b = b} e k s i h) = one-more b c (so b k) s h
  so c (take {b = b} k s r) = let x = so b k in one-more b c x s (omega (arith, x.0, rest-length (bag_of entry_before b.heap), ap (λ (l : List Entry). length l) r))

pub slots-behind-kept : SlotsBehindKept
slots-behind-kept a b most few k = (so a most few b k).1
