use Rattle.std.proofs.Common.{◌≡◌, ℕ, zero, suc, ◌<◌, Some, None, arith}
use Rattle.model.specs.Graph.{Graph}
use Rattle.model.specs.Bounds.{Bound}
use Rattle.astar.specs.declared.sizes.Sizes.{Sizes}
use Rattle.astar.specs.declared.outcome.Outcome.{Outcome}
use Rattle.astar.specs.States.{SearchState}
use Rattle.astar.specs.Expansion.{expanded}
use Rattle.astar.specs.Advance.{early_word, turn_word, last_word, next_node, advanced}

-- What advance is told to do, turn by turn.

module _ (g : Graph) (b : Bound) (z : Sizes) (limit : ℕ) where
  -- an outcome ends the call
  pub advanced-stop : (k : ℕ) (w v : SearchState) (o : Outcome) → 0 < k → turn_word g z w limit ≡ Some o → v ≡ w → (v, o) ≡ advanced g b z limit k w
  unfolding advanced
  advanced-stop zero w v o h e s = absurd (omega arith)
  advanced-stop (suc k) w v o h e s = rw (e, s)

  -- without one the node is expanded, and a turn is spent
  pub advanced-go : (k j : ℕ) (w v : SearchState) (y : Sizes) (l : ℕ) → suc j ≡ k → turn_word g z w limit ≡ None → v ≡ expanded g b w (next_node w.bag) → y ≡ z → l ≡ limit → advanced g b y l j v ≡ advanced g b z limit k w
  unfolding advanced
  advanced-go zero j w v y l h e s p q = absurd (omega arith)
  advanced-go (suc k) j w v y l h e s p q = let r : j ≡ k = omega arith in rw (e, s, p, q, r)

  -- the budget is spent
  pub advanced-end : (k : ℕ) (w v : SearchState) (o : Outcome) → k ≡ 0 → v ≡ w → o ≡ last_word (early_word g z w limit) → (v, o) ≡ advanced g b z limit k w
  unfolding advanced
  advanced-end zero w v o h s e = rw (s, e)
  advanced-end (suc k) w v o h s e = absurd (omega arith)
