use Rattle.partial.specs.Meaning.{the_partial}
use Rattle.nodes.proofs.Walking.{Walked, steps_left}
use Rattle.nodes.proofs.table.Table.is_held.Given as goal

abbrev pub invariant-loop-at : goal.invariant-loop-at
invariant-loop-at l = Walked l.self l.used (the_partial l.q) l.at

abbrev pub decreases-loop-at : goal.decreases-loop-at
decreases-loop-at l = steps_left l.at
