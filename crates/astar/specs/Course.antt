use Rattle.std.specs.Prelude.{◌≡◌, ℕ, ◌≤◌, Some}
use Rattle.model.specs.Graph.{Graph, Lawful}
use Rattle.model.specs.Bounds.{Bound}
use Rattle.bag.specs.Bag.{first, InOrder}
use Rattle.queue.specs.declared.entry.Entry.{Entry}
use Rattle.queue.specs.Entries.{entry_before}
use Rattle.astar.specs.declared.sizes.Sizes.{Sizes}
use Rattle.astar.specs.States.{SearchState, used}
use Rattle.astar.specs.Advance.{advanced}
use Rattle.astar.specs.Fates.{ByChildren}

-- from one state to another by expansions: each takes the node whose entry comes first, and then its children come in the
-- order of the choices, each to its fate
pub data Course (g : Graph) (b : Bound) : SearchState → SearchState → Type 0 where
  here : {w : SearchState} → Course g b w w
  on : {w u v : SearchState} {e : Entry} → first w.bag ≡ Some e → ByChildren g b w e.node u
      → Course g b u v → Course g b w v

-- so goes a call of advance with any budget, from every state whose list is told in order and whose used nodes are the
-- table's
abbrev pub AdvanceVisits : Type 0
AdvanceVisits = (g : Graph) (b : Bound) (z : Sizes) (limit k : ℕ) (w : SearchState) → Lawful g
    → InOrder entry_before w.bag → used w ≤ z.nodes
    → Course g b w (advanced g b z limit k w).0
