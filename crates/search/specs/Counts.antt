use Rattle.std.specs.Prelude.{◌≡◌, ℕ, ◌+◌, ◌*◌, ◌^◌, ◌<◌, ◌≤◌, length}
use Rattle.astar.specs.declared.tally.Tally.{Tally}
use Rattle.astar.specs.declared.sizes.Sizes.{Sizes}
use Rattle.astar.specs.States.{SearchState, used}

-- the counts of a search, whatever memory it was lent: each child came to one of four fates, as many nodes wait as were
-- stored and not expanded, every used node is one of the table, and a node has at most 256 children
pub record Sensible (z : Sizes) (s : Tally) : Type 0 where
  pub made : s.stored + s.duplicates + s.pruned + s.complete ≡ s.generated
  pub waiting : s.waiting + s.expanded ≡ s.stored + 1
  pub nodes : s.stored + 2 ≤ z.nodes
  pub few : z.nodes ≤ 1048576
  pub count : s.generated ≤ s.expanded * 256

-- n children more can be counted and stored
pub record Room (n limit : ℕ) (w : SearchState) : Type 0 where
  pub made : w.tally.stored + w.tally.duplicates + w.tally.pruned + w.tally.complete
      ≡ w.tally.generated
  pub count : w.tally.generated + n < 2 ^ 64
  pub waiting : w.tally.waiting + n < 2 ^ 64
  pub nodes : used w + n ≤ length w.nodes
  pub list : length w.bag + n ≤ limit
