use Rattle.std.proofs.Common.{◌≡◌}
use Rattle.loader.specs.Meaning.{the_graph}
use Rattle.partial.specs.Meaning.{the_partial}
use Rattle.schedule.specs.ListSchedule.{listed}
use Rattle.schedule.proofs.list.list_schedule.Given as goal

abbrev pub invariant-loop : goal.invariant-loop
invariant-loop l = record {
  same_graph : l.list.graph.now ≡ l.g;
  placed : the_partial l.list.placed ≡ listed (the_graph l.g) l.counter;
}
