use Rattle.std.proofs.Common.{◌≡◌, ◌+◌, ◌-◌}
use Rattle.loader.specs.Meaning.{the_graph}
use Rattle.astar.specs.Advance.{advanced}
use Rattle.astar.proofs.Counts.{Grows}
use Rattle.search.specs.Keeping.{KeptWhile}
use Rattle.search.specs.States.{the_state}
use Rattle.search.proofs.search.Search.spend.Given as goal

abbrev pub invariant-loop : goal.invariant-loop
invariant-loop g l = record {
  is : advanced (the_graph l.g) (g.B.LowerBound.number l.rule) l.self.sizes (g.L.OpenList.limit l.list) (l.budget - l.counter) (the_state l.self.tally l.table (g.L.OpenList.bag l.list))
      ≡ advanced (the_graph l.g) (g.B.LowerBound.number l.rule) l.fn.self.sizes (g.L.OpenList.limit l.fn.list) l.budget (the_state l.fn.self.tally l.fn.table (g.L.OpenList.bag l.fn.list));
  still : (l.counter ≡ 0 → l.list ≡ l.fn.list) × (l.self.tally.expanded ≡ l.fn.self.tally.expanded + l.counter);
  kept : KeptWhile g.L.OpenList.bag g.L.OpenList.kept l.fn.self.tally.stored l.self.tally.stored l.fn.list l.list;
  grows : Grows (the_state l.fn.self.tally l.fn.table (g.L.OpenList.bag l.fn.list)) (the_state l.self.tally l.table (g.L.OpenList.bag l.list));
  sizes : l.self.sizes ≡ l.fn.self.sizes;
  limit : g.L.OpenList.limit l.list ≡ g.L.OpenList.limit l.fn.list;
}
