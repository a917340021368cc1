use Rattle.std.proofs.Common.{◌≡◌, ◌≤◌, ◌^◌}
use Rattle.model.specs.Range.{least}
use Rattle.model.specs.Partial.{data_ready}
use Rattle.loader.specs.Meaning.{the_graph}
use Rattle.partial.specs.Meaning.{the_partial}
use Rattle.bounds.proofs.arrival_bound.earliest_data.Given as goal

abbrev pub invariant-loop-m : goal.invariant-loop-m
invariant-loop-m l = record {
  is : l.earliest ≡ least l.m (data_ready (the_graph l.g) (the_partial l.q) l.t);
  small : l.earliest ≤ 2 ^ 33;
}
