use Rattle.std.proofs.Common.{◌≡◌, ◌*◌, ◌≤◌}
use Rattle.model.specs.Range.{sum}
use Rattle.model.specs.Bounds.{work_on}
use Rattle.loader.specs.Meaning.{the_graph}
use Rattle.partial.specs.Meaning.{the_partial}
use Rattle.bounds.proofs.load_bound.placed_work.Given as goal

abbrev pub invariant-loop-u : goal.invariant-loop-u
invariant-loop-u l = record {
  is : l.total ≡ sum l.u (work_on (the_graph l.g) (the_partial l.q) l.m);
  small : l.total ≤ l.u * 65536;
}
