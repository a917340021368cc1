use Rattle.std.proofs.Common.{◌≡◌, ◌*◌, ◌^◌, ◌≤◌}
use Rattle.model.specs.Range.{sum}
use Rattle.model.specs.Bounds.{idle_time}
use Rattle.loader.specs.Meaning.{the_graph}
use Rattle.partial.specs.Meaning.{the_partial}
use Rattle.bounds.proofs.load_bound.total_idle.Given as goal

abbrev pub invariant-loop-m : goal.invariant-loop-m
invariant-loop-m l = record {
  is : l.total ≡ sum l.m (idle_time (the_graph l.g) (the_partial l.q));
  small : l.total ≤ l.m * 2 ^ 33;
}
