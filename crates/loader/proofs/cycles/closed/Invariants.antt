use Rattle.std.proofs.Common.{◌≡◌, ℕ, List, length}
use Rattle.model.specs.Cycles.{reach}
use Rattle.loader.specs.Tables.{table_of}
use Rattle.loader.specs.View.{graph_of}
use Rattle.loader.proofs.cycles.closed.Given as goal

abbrev pub invariant-loop-mid : goal.invariant-loop-mid
invariant-loop-mid l = (p : ℕ) (ws : List ℕ) → l.table ≡ table_of (reach (graph_of l.tasks p ws (length l.transfers) l.transfers) l.mid)
