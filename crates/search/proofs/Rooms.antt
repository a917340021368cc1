use Rattle.std.proofs.Common.{◌≡◌, ℕ, ◌+◌, ◌≤◌, max, sym, subst, arith, length-set}
use Rattle.model.specs.Graph.{Graph}
use Rattle.model.specs.Partial.{Partial}
use Rattle.model.specs.Bounds.{Bound}
use Rattle.bag.proofs.Bags.{length-insert}
use Rattle.queue.specs.Entries.{entry_before}
use Rattle.astar.specs.States.{SearchState, used, best_node, waiting_node, entry}
use Rattle.astar.specs.Expansion.{visited}
use Rattle.astar.proofs.Visits.{visit-cases}
use Rattle.search.specs.Counts.{Room}

-- a visit leaves room for one child fewer
pub room-visit : (g : Graph) (b : Bound) (up : ℕ) (w : SearchState) (c : Partial) (n m limit : ℕ) → m + 1 ≤ n → Room n limit w → Room m limit (visited g b up w c)
room-visit g b up w c n m limit fewer R = visit-cases g b up w c (Room m limit)
    (λ e l. record { made = omega (arith, R.made); count = omega (arith, R.count); waiting = omega (arith, R.waiting); nodes = omega (arith, R.nodes, length-set w.nodes 0 (best_node g c)); list = omega (arith, R.list) })
    (λ e l. record { made = omega (arith, R.made); count = omega (arith, R.count); waiting = omega (arith, R.waiting); nodes = omega (arith, R.nodes); list = omega (arith, R.list) })
    (λ l. record { made = omega (arith, R.made); count = omega (arith, R.count); waiting = omega (arith, R.waiting); nodes = omega (arith, R.nodes); list = omega (arith, R.list) })
    (λ h. record { made = omega (arith, R.made); count = omega (arith, R.count); waiting = omega (arith, R.waiting); nodes = omega (arith, R.nodes); list = omega (arith, R.list) })
    (λ e. record {
      made = omega (arith, R.made);
      count = omega (arith, R.count);
      waiting = omega (arith, R.waiting);
      nodes = omega (arith, R.nodes, length-set w.nodes (used w) (waiting_node c (max up (b g c))));
      list = omega (arith, R.list, length-insert entry_before (entry (max up (b g c)) (used w)) w.bag);
    })

-- the same of a state that is told so
pub room-on : (g : Graph) (b : Bound) (up : ℕ) (w : SearchState) (c : Partial) (v : SearchState) (limit later : ℕ) → v ≡ visited g b up w c → later ≡ limit → (n : ℕ) → Room (n + 1) limit w → Room n later v
room-on g b up w c v limit later e l n R = subst (λ m. Room n m v) (sym l) (subst (Room n limit) (sym e) (room-visit g b up w c (n + 1) n limit (omega arith) R))
