use Rattle.std.proofs.Common.{◌≡◌}
use Rattle.partial.specs.Meaning.{the_partial}
use Rattle.search.specs.Calls.{rows_below}
use Rattle.search.proofs.search.best.write_rows.Given as goal

abbrev pub invariant-loop-t : goal.invariant-loop-t
invariant-loop-t l = l.rows ≡ rows_below (the_partial l.q) l.t l.fn.rows
