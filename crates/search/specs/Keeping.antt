use Rattle.std.specs.Prelude.{ℕ, ◌+◌, ◌≤◌, List, length}
use Rattle.queue.specs.declared.entry.Entry.{Entry}
use Rattle.queue.specs.Keeping.{Kept}

-- what a list's memory keeps while the number of nodes stored goes from m to n: the list never holds more entries than it
-- held and were stored
pub record KeptWhile {A : Type 0} (bag : A → List Entry) (Keeps : A → A → Type 0) (m n : ℕ) (a b : A) : Type 0 where
  pub kept : (most : ℕ) → length (bag a) + n ≤ most + m → Kept bag Keeps most a b
