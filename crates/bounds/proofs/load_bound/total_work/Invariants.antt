use Rattle.std.proofs.Common.{◌≡◌, ◌*◌, ◌≤◌}
use Rattle.model.specs.Range.{sum}
use Rattle.loader.specs.Meaning.{the_graph}
use Rattle.bounds.proofs.load_bound.total_work.Given as goal

abbrev pub invariant-loop-t : goal.invariant-loop-t
invariant-loop-t l = record {
  is : l.total ≡ sum l.t (the_graph l.g).work;
  small : l.total ≤ l.t * 65536;
}
