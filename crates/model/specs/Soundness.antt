use Rattle.std.specs.Prelude.{◌≡◌, ℕ, ◌<◌, ◌≤◌, Bool, true, not, ◌&&◌, ◌||◌, nat_lt, nat_le}
use Rattle.model.specs.Range.{every}
use Rattle.model.specs.Graph.{Graph}
use Rattle.model.specs.Partial.{Partial}
use Rattle.model.specs.NormalForm.{Normal, normal_form}
use Rattle.model.specs.Nodes.{is_duplicate}

-- a partial schedule that the search takes from a node handed in: it places no task that the graph lacks
-- and all predecessors of what it places, on machines of the graph, in normal form, at starts up to 64,000
pub record Orderly (g : Graph) (s : Partial) : Type 0 where
  pub tasks : (t : ℕ) → t < 32 → s.placed t ≡ true → t < g.tasks
  pub on : (t : ℕ) → t < g.tasks → s.placed t ≡ true → s.machine t < g.machines
  pub starts : (t : ℕ) → t < g.tasks → s.placed t ≡ true → s.start t ≤ 64000
  pub before : (k : ℕ) → k < g.count → s.placed (g.to k) ≡ true → s.placed (g.from k) ≡ true
  pub normal : Normal g s

-- the test of one place: a task of the graph on a machine of the graph, at a start up to 64,000
abbrev pub in_range : Graph → Partial → ℕ → Bool
in_range g s t =
    not (s.placed t)
    || (nat_lt t g.tasks && (nat_lt (s.machine t) g.machines && nat_le (s.start t) 64000))

-- the test of one transfer: it leads from a placed task if it leads to one
abbrev pub comes_after : Graph → Partial → ℕ → Bool
comes_after g s k = not (s.placed (g.to k)) || s.placed (g.from k)

-- the test of all
unfoldable pub is_orderly : Graph → Partial → Bool
is_orderly g s =
    every 32 (in_range g s)
    && (every g.count (comes_after g s) && is_duplicate s (normal_form g s))

-- whether every task of the graph is placed
unfoldable pub is_complete : Graph → Partial → Bool
is_complete g s = every g.tasks s.placed
