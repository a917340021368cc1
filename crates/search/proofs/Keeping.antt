use Rattle.std.proofs.Common.{◌≡◌, ℕ, ◌+◌, ◌≤◌, List, length, subst, sym, ap, arith}
use Rattle.bag.specs.Bag.{insert, rest}
use Rattle.bag.proofs.Bags.{length-insert}
use Rattle.queue.specs.declared.entry.Entry.{Entry}
use Rattle.queue.specs.Entries.{entry_before}
use Rattle.queue.specs.Keeping.{Kept}
use Rattle.queue.specs.Keeping.Kept.{none, put, take}
use Rattle.search.specs.Keeping.{KeptWhile}

-- Steps that keep something, put together.

module _ {A : Type 0} (bag : A → List Entry) (Keeps : A → A → Type 0) where
  pub kept_still : (a b : A) (m n : ℕ) → b ≡ a → KeptWhile bag Keeps m n a b
  kept_still a b m n e = record { kept = λ most h. subst (Kept bag Keeps most a) (sym e) none }

  pub kept_put : (a b : A) (m n : ℕ) (e : Entry) → Keeps a b → bag b ≡ insert entry_before e (bag a) → n ≡ m + 1 → KeptWhile bag Keeps m n a b
  kept_put a b m n e k is more = record {
    kept = λ most h. put e none k is (omega (arith, h, more, ap (λ (l : List Entry). length l) is, length-insert entry_before e (bag a)));
  }

  pub kept_take : (a b : A) (m : ℕ) → Keeps a b → bag b ≡ rest (bag a) → KeptWhile bag Keeps m m a b
  kept_take a b m k is = record { kept = λ most h. take none k is }

  joined : (most : ℕ) (a b c : A) → Kept bag Keeps most a b → Kept bag Keeps most b c → Kept bag Keeps most a c
  joined most a b c k none = k
  joined most a b c k (put e l x is h) = put e (joined most a b _ k l) x is h
  joined most a b c k (take l x is) = take (joined most a b _ k l) x is

  pub kept_on : (a b c : A) (m n o : ℕ) → KeptWhile bag Keeps m n a b → KeptWhile bag Keeps n o b c → n ≤ o → length (bag b) + m ≤ length (bag a) + n → KeptWhile bag Keeps m o a c
  kept_on a b c m n o k l up fewer = record { kept = λ most h. joined most a b c (k.kept most (omega (arith, h, up))) (l.kept most (omega (arith, h, fewer))) }
