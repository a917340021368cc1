use Rattle.std.specs.Prelude.{ℕ, min, Bool, false, if◌then◌else◌, not, ◌&&◌, ◌==◌, nat_lt, List, length, slice_index_or}
use Rattle.model.specs.Range.{every, any}
use Rattle.model.specs.Partial.{Partial, nothing}

-- a node of the search: a partial schedule, its bound, and whether it waits to be expanded
pub record SearchNode : Type 0 where
  pub partial : Partial
  pub bound : ℕ
  pub waiting : Bool

-- what stands past the last node
abbrev pub no_node : SearchNode
no_node = record { partial = nothing; bound = 0; waiting = false }

abbrev pub node_at : List SearchNode → ℕ → SearchNode
node_at ns i = slice_index_or ns i no_node

-- task t is placed in both, on one machine at one start, or in neither
abbrev pub agree_on : Partial → Partial → ℕ → Bool
agree_on a b t =
    if a.placed t
    then b.placed t && (a.machine t == b.machine t && a.start t == b.start t)
    else not (b.placed t)

-- the test for duplicates: they agree in the tasks placed and in every machine and start;
-- a partial schedule in memory has 32 places
unfoldable pub is_duplicate : Partial → Partial → Bool
is_duplicate a b = every 32 (agree_on a b)

-- whether one of the first `used` nodes, node 0 apart, holds a duplicate
unfoldable pub is_held : List SearchNode → ℕ → Partial → Bool
is_held ns used c =
    any (min used (length ns)) (λ i. nat_lt 0 i && is_duplicate c (node_at ns i).partial)
