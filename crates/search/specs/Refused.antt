use Rattle.std.specs.Prelude.{◌≡◌, ℕ, ◌<◌, ◌≤◌, ◌⊎◌, List, length}
use Rattle.model.specs.Graph.{Graph}
use Rattle.model.specs.Schedule.{Feasible, makespan}
use Rattle.model.specs.Partial.{Complete, whole}
use Rattle.model.specs.Nodes.{SearchNode, node_at}
use Rattle.refusal.specs.declared.layer.Layer.TheVariants.{Search, Page}
use Rattle.refusal.specs.declared.refusal.Refusal.{Refusal}
use Rattle.queue.specs.declared.entry.Entry.{Entry}
use Rattle.astar.specs.declared.sizes.Sizes.{Sizes}
use Rattle.astar.specs.States.{SearchState, best_length}
use Rattle.astar.specs.Endings.{Foreign}
use Rattle.astar.specs.Laws.{floor}

-- The refusals of each call, by number, and what is so where it is refused.

-- open: 9 where the table has fewer than 2 or more than 1,048,576 nodes; 10 where it has not, and the list is not empty
-- or cannot hold an entry for each node
pub data OpenRefused (ns : List SearchNode) (bag : List Entry) (limit : ℕ) : Refusal → Type 0 where
  table : (length ns < 2) ⊎ (1048576 < length ns)
      → OpenRefused ns bag limit (record { number = 9; place = 0; layer = Search })
  list : 2 ≤ length ns → length ns ≤ 1048576 → (0 < length bag) ⊎ (limit < length ns)
      → OpenRefused ns bag limit (record { number = 10; place = 0; layer = Search })

-- floor: 11 where the memory is not this search's
pub data FloorRefused (g : Graph) (z : Sizes) (limit : ℕ) (w : SearchState) : Refusal → Type 0 where
  foreign : Foreign g z limit w
      → FloorRefused g z limit w (record { number = 11; place = 0; layer = Search })

-- settle: 11 as floor; 12 where the floor is below the best length
pub data SettleRefused (g : Graph) (z : Sizes) (limit : ℕ) (w : SearchState) : Refusal → Type 0 where
  foreign : Foreign g z limit w
      → SettleRefused g z limit w (record { number = 11; place = 0; layer = Search })
  unsettled : (Foreign g z limit w → ⊥) → floor w < best_length w
      → SettleRefused g z limit w (record { number = 12; place = 0; layer = Search })

-- a node holds a schedule of all tasks that is feasible, with its makespan
abbrev pub HoldsBest : Graph → SearchNode → Type 0
HoldsBest g x = Complete g x.partial × Feasible g (whole x.partial)
    × (makespan g (whole x.partial) ≡ x.bound)

-- best and page: 11 as floor, or where node 0 holds no such schedule; 16 where there is less room than is needed
pub data WriteRefused (g : Graph) (z : Sizes) (limit : ℕ) (w : SearchState) (needed room : ℕ) : Refusal → Type 0 where
  foreign : Foreign g z limit w ⊎ (HoldsBest g (node_at w.nodes 0) → ⊥)
      → WriteRefused g z limit w needed room (record { number = 11; place = 0; layer = Search })
  short : (Foreign g z limit w → ⊥) → HoldsBest g (node_at w.nodes 0) → room < needed
      → WriteRefused g z limit w needed room (record { number = 16; place = 0; layer = Page })
