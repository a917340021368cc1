use Rattle.std.proofs.Common.{◌≡◌}
use Rattle.model.specs.Children.{is_used, passing}
use Rattle.loader.specs.Meaning.{the_graph}
use Rattle.partial.specs.Meaning.{the_partial}
use Rattle.children.proofs.tried.used_machines.Given as goal

abbrev pub invariant-loop-m : goal.invariant-loop-m
invariant-loop-m l = l.machines ≡ passing l.m (is_used (the_graph l.g) (the_partial l.q))
