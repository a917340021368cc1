use Rattle.std.proofs.Common.{◌≡◌, ℕ, ◌<◌, length, get_or}
use Rattle.model.specs.Graph.{longest}
use Rattle.loader.specs.View.{graph_of}
use Rattle.loader.proofs.levels.bottom_levels.Given as goal

abbrev pub invariant-loop-round : goal.invariant-loop-round
invariant-loop-round l = (p t : ℕ) → t < length l.works → get_or l.low t 0 ≡ longest (graph_of (length l.works) p l.works (length l.transfers) l.transfers) l._round t
