use Rattle.std.proofs.Common.{◌≡◌, ℕ, ◌+◌, ◌<◌, ◌≤◌, List, [], ◌∷◌, length, Some, None, Option, sym, ap, arith}
use Rattle.bag.specs.Bag.{first, rest}
use Rattle.queue.specs.declared.entry.Entry.{Entry}
use Rattle.astar.specs.Advance.{next_node}

-- What a take answers of a list that is not empty.

-- it answers some entry
pub taken_some : (b : List Entry) (r : Option Entry) → r ≡ first b → 0 < length b → r ≡ None → ⊥
taken_some [] r e h n = omega (arith, h)
taken_some (x ∷ b) r e h n = cc

-- whose node is the next
pub taken_next : (b : List Entry) (r : Option Entry) (e : Entry) → r ≡ first b → r ≡ Some e → e.node ≡ next_node b
taken_next [] r e p q = cc
taken_next (x ∷ b) r e p q = let z : x ≡ e = cc in ap (λ (y : Entry). y.node) (sym z)

-- and leaves no more entries
pub taken_fewer : (b d : List Entry) (m : ℕ) → d ≡ rest b → length d + m ≤ length b + m
taken_fewer [] d m e = omega (arith, ap (λ (l : List Entry). length l) e)
taken_fewer (x ∷ b) d m e = omega (arith, ap (λ (l : List Entry). length l) e)
