use Rattle.std.specs.Prelude.{◌≡◌, ℕ, zero, suc, ◌<◌, ◌≤◌, true, false, List, Some, None, Option}
use Rattle.queue.specs.declared.entry.Entry.{Entry}
use Rattle.chain.specs.declared.cell.Cell.{Cell}
use Rattle.chain.specs.declared.links.Links.{Links}
use Rattle.chain.specs.declared.links.Place.{Place}
use Rattle.queue.specs.Entries.{entry_before}
use Rattle.chain.specs.Cells.{entry_at, after, onward, walk, entries_at}

-- what the lent cells hold
abbrev pub cells_of : Links → List Cell
cells_of l = l.cells.now

-- the entries of a chain, from its head on
abbrev pub chain_of : Links → List Entry
chain_of l = entries_at (cells_of l) (walk (cells_of l) l.count l.head)

-- the cell that is k steps from the head
abbrev pub step_of : Links → ℕ → ℕ
step_of l k = onward (cells_of l) k l.head

-- the last of k cells that are passed from the head on; there is none where none is passed
abbrev pub passed_last : Links → ℕ → Option ℕ
passed_last l zero = None
passed_last l (suc k) = Some (step_of l k)

-- p is where e belongs: the cells passed come before it, and the next one, if any, does not
pub record Placed (l : Links) (e : Entry) (p : Place) : Type 0 where
  pub steps : ℕ
  pub within : steps ≤ l.count
  pub previous : p.previous ≡ passed_last l steps
  pub next : p.next ≡ step_of l steps
  pub passed : (i : ℕ) → i < steps → entry_before (entry_at (cells_of l) (step_of l i)) e ≡ true
  pub stopped : steps < l.count → entry_before (entry_at (cells_of l) p.next) e ≡ false

-- the arrangement after a call, wherever the chains lead
pub record CellsKept (a b : Links) : Type 0 where
  -- every cell holds the entry that it held, but for the first free one where an entry was put
  pub entries : (k : ℕ) → (k ≡ a.free → b.count ≤ a.count)
      → entry_at (cells_of b) k ≡ entry_at (cells_of a) k
  -- where an entry was put, the cell behind the first free one is the first free one then
  pub used : a.count < b.count → b.free ≡ after (cells_of a) a.free
  -- a cell that is given up is the first free one then, before those that were free
  pub given_up : b.count < a.count
      → (b.free ≡ a.head) × (after (cells_of b) b.free ≡ a.free)
  -- they are the cells of the same lender
  pub lender : b.cells.ghost_name ≡ a.cells.ghost_name
