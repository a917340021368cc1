use Rattle.std.specs.Prelude.{◌≡◌, ℕ, zero, suc, ◌<◌, ◌≤◌, max, Bool, if◌then◌else◌, ◌&&◌, List, length, Some, None, Option, ◌==◌, nat_lt, slice_index_or}
use Rattle.model.specs.Partial.{Partial}
use Rattle.model.specs.Nodes.{SearchNode, node_at, is_duplicate}
use Rattle.nodes.specs.Hash.{bucket_of}

-- the last number below n, 0 apart, that f sends to b, if there is one
unfoldable pub last_below : (ℕ → ℕ) → ℕ → ℕ → Option ℕ
last_below f b zero = None
last_below f b (suc n) = if nat_lt 0 n && f n == b then Some n else last_below f b n

-- the bucket of node i, one of m
abbrev pub node_bucket : List SearchNode → ℕ → ℕ → ℕ
node_bucket ns m i = bucket_of (node_at ns i).partial m

-- the first `linked` nodes, node 0 apart, are in chains: a bucket's chain begins with the last linked node in that
-- bucket, and behind a linked node comes the last node before it in its bucket
pub record Linked (ns : List SearchNode) (heads next : List (Option ℕ)) (linked : ℕ) : Type 0 where
  pub many : length heads ≡ max (length ns) 1
  pub room : length next ≡ length ns
  pub above : 0 < linked
  pub within : linked ≤ max (length ns) 1
  pub head : (b : ℕ) → b < length heads
      → slice_index_or heads b None ≡ last_below (node_bucket ns (length heads)) b linked
  pub behind : (i : ℕ) → 0 < i → i < linked → slice_index_or next i None
      ≡ last_below (node_bucket ns (length heads)) (node_bucket ns (length heads) i) i

-- whether node i is one of the first `used`, node 0 apart, and holds a duplicate of s
abbrev pub sought : List SearchNode → ℕ → Partial → ℕ → Bool
sought ns used s i = nat_lt i used && (nat_lt 0 i && is_duplicate s (node_at ns i).partial)
