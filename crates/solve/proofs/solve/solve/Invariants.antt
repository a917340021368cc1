use Rattle.std.proofs.Common.{◌≡◌, false}
use Rattle.loader.specs.Meaning.{the_graph}
use Rattle.schedule.specs.ListSchedule.{listed}
use Rattle.nodes.specs.Meaning.{the_nodes}
use Rattle.astar.specs.Opening.{sizes_of, opened}
use Rattle.search.specs.States.{the_state, moment}
use Rattle.search.specs.Runs.{Run}
use Rattle.solve.specs.Solving.{advanced_often}
use Rattle.solve.proofs.solve.solve.Given as goal

abbrev pub invariant-loop : goal.invariant-loop
invariant-loop g l = record {
  state : the_state l.search.tally l.table (g.L.OpenList.bag l.list)
      ≡ advanced_often (the_graph l.g) (g.B.LowerBound.number l.rule) (sizes_of (the_graph l.g) (the_nodes l.fn.table)) (g.L.OpenList.limit l.fn.list) l.budget l.counter
      (opened (the_graph l.g) (g.B.LowerBound.number l.rule) (listed (the_graph l.g) (the_graph l.g).tasks) (the_nodes l.fn.table));
  sizes : l.search.sizes ≡ sizes_of (the_graph l.g) (the_nodes l.fn.table);
  run : Run (the_graph l.g) (g.B.LowerBound.number l.rule) false (moment l.search l.table (g.L.OpenList.bag l.list) (g.L.OpenList.limit l.list));
  limit : g.L.OpenList.limit l.list ≡ g.L.OpenList.limit l.fn.list;
}
