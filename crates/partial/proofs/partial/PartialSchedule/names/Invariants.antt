use Rattle.std.proofs.Common.{◌≡◌, ◌≤◌}
use Rattle.model.specs.NormalForm.{naming}
use Rattle.partial.specs.Meaning.{the_partial}
use Rattle.partial.specs.Names.{the_names}
use Rattle.partial.proofs.partial.PartialSchedule.names.Given as goal

abbrev pub invariant-loop-t : goal.invariant-loop-t
invariant-loop-t l = record { named : the_names l.names ≡ naming (the_partial l.self) l.t; few : l.names.next ≤ l.t }
