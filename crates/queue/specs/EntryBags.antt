use Rattle.std.specs.Prelude.{ℕ, ◌≤◌, List, length, take}
use Rattle.std.proofs.Common.{sym, subst}
use Rattle.bag.specs.Order.{Total}
use Rattle.bag.specs.Bag.{sorted, InOrder}
use Rattle.bag.proofs.Bags.{sorted-in-order, length-bag}
use Rattle.bag.proofs.Pairs.{ascending}
use Rattle.queue.specs.declared.entry.Entry.{Entry}
use Rattle.queue.specs.Entries.{entry_before}

-- Lemmas that the ghost members of open lists cite.

pub entries-ordered : Total entry_before
entries-ordered =
    ascending (λ (x : Entry). x.bound) (λ x. x.node)
    (λ x y p q t. record { bound = p t; node = q t })

pub slots-ordered : (xs : List Entry) (n : ℕ)
    → InOrder entry_before (sorted entry_before (take n xs))
slots-ordered xs n = sorted-in-order entry_before entries-ordered (take n xs)

pub slots-bounded : (xs : List Entry) (n : ℕ) → n ≤ length xs
    → length (sorted entry_before (take n xs)) ≤ length xs
slots-bounded xs n h = subst (λ (k : ℕ). k ≤ length xs) (sym (length-bag entry_before xs n h)) h
