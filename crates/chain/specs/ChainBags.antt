use Rattle.std.specs.Prelude.{◌≡◌, ℕ, zero, suc, ◌<◌, ◌≤◌, false, List, length, slice_index_or, refl}
use Rattle.std.proofs.Common.{sym, ap, ◌∙◌, subst}
use Rattle.std.proofs.lemmas.List.{length-map}
use Rattle.bag.specs.Bag.{InOrder}
use Rattle.bag.proofs.Bags.{in-order-by-places}
use Rattle.queue.specs.declared.entry.Entry.{Entry}
use Rattle.queue.specs.Entries.{entry_before}
use Rattle.queue.specs.EntryBags.{entries-ordered}
use Rattle.chain.specs.declared.cell.Cell.{Cell}
use Rattle.chain.specs.Cells.{blank, after, entry_at, walk, entries_at}

-- Lemmas that the ghost members of the chain cite, and one on its order.

length-walk : (xs : List Cell) (n at : ℕ) → length (walk xs n at) ≡ n
length-walk xs zero at = refl
length-walk xs (suc n) at = ap suc (length-walk xs n (after xs at))

pub length-chain : (xs : List Cell) (head n : ℕ) → length (entries_at xs (walk xs n head)) ≡ n
length-chain xs head n = length-map (walk xs n head) (entry_at xs) ∙ length-walk xs n head

pub chain-bounded : (xs : List Cell) (head n : ℕ) → n ≤ length xs
    → length (entries_at xs (walk xs n head)) ≤ length xs
chain-bounded xs head n h = subst (λ (k : ℕ). k ≤ length xs) (sym (length-chain xs head n)) h

-- a list whose entries are in order place by place is in order
pub chain-ordered : (b : List Entry)
    → ((i j : ℕ) → (i < j) × (j < length b)
    → entry_before (slice_index_or b j blank.entry) (slice_index_or b i blank.entry) ≡ false)
    → InOrder entry_before b
chain-ordered b h = in-order-by-places entry_before entries-ordered b blank.entry h
