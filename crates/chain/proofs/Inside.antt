use Rattle.std.proofs.Common.{◌≡◌, ℕ, ◌<◌, List, length, set, Some, sym, ap, ◌∙◌, subst, arith, get_or-set_same, get_or-set_other}
use native.Mathlib.Decide.{ℕ_discrete}
use Rattle.bag.specs.Bag.{first}
use Rattle.queue.specs.declared.entry.Entry.{Entry}
use Rattle.chain.specs.declared.cell.Cell.{Cell}
use Rattle.chain.specs.declared.links.Links.{Links}
use Rattle.chain.specs.Cells.{blank, entry_at}
use Rattle.bag.proofs.Bags.{first-some}
use Rattle.chain.specs.Chains.{chain_of, step_of}
use Rattle.chain.specs.ChainBags.{length-chain}
use Rattle.chain.proofs.Linking.{onward-inside, free-inside}

-- where a cell is in use, the head is one; where a cell is free, the first free one is one

pub head_inside : (l : Links) → 0 < l.count → l.head < length l.cells.now
head_inside l h = onward-inside l.cells.now l.head l.free l.count 0 l.linked h

pub free_inside : (l : Links) → l.count < length l.cells.now → l.free < length l.cells.now
free_inside l h = free-inside l.cells.now l.head l.free l.count l.linked h

pub step_inside : (l : Links) (k at : ℕ) → at ≡ step_of l k → k < l.count → at < length l.cells.now
step_inside l k at e h = subst (λ (x : ℕ). x < length l.cells.now) (sym e) (onward-inside l.cells.now l.head l.free l.count k l.linked h)

-- where there is a first entry, a cell is in use
pub held : (l : Links) (e : Entry) → Some e ≡ first (chain_of l) → 0 < l.count
held l e is = omega (arith, first-some (chain_of l) e is, length-chain l.cells.now l.head l.count)

-- a cell that names another keeps its entry
pub entry_kept : (xs : List Cell) (at next k : ℕ) → at < length xs → entry_at (set xs at (record { entry = entry_at xs at; next = next })) k ≡ entry_at xs k
entry_kept xs at next k h = elim (ℕ_discrete k at) [
  | yes e ↦ ap (entry_at (set xs at c)) e ∙ ap (λ (x : Cell). x.entry) (get_or-set_same xs at c blank h) ∙ ap (entry_at xs) (sym e)
  | no ne ↦ ap (λ (x : Cell). x.entry) (get_or-set_other xs at k c blank ne)
]
  where
    c : Cell
    c = record { entry = entry_at xs at; next = next }
