use Rattle.std.proofs.Common.{◌≡◌, ◌-◌, length, fold, take}
use Rattle.loader.specs.Meaning.{the_graph}
use Rattle.children.specs.Choices.{pairs_of}
use Rattle.nodes.specs.View.{the_node}
use Rattle.astar.specs.Expansion.{visited_by}
use Rattle.astar.proofs.Counts.{Grows}
use Rattle.search.specs.States.{the_state}
use Rattle.search.specs.Counts.{Room}
use Rattle.search.specs.Keeping.{KeptWhile}
use Rattle.search.proofs.expand.visit_all.Given as goal

abbrev pub invariant-loop-choice : goal.invariant-loop-choice
invariant-loop-choice g l = record {
  is : the_state l.tally l.table (g.L.OpenList.bag l.list)
      ≡ fold (visited_by (the_graph l.g) (g.B.LowerBound.number l.rule) (the_node l.parent)) (the_state l.fn.tally l.fn.table (g.L.OpenList.bag l.fn.list)) (pairs_of (take l.choice-index l.choices));
  room : Room (length l.choices - l.choice-index) (g.L.OpenList.limit l.list) (the_state l.tally l.table (g.L.OpenList.bag l.list));
  kept : KeptWhile g.L.OpenList.bag g.L.OpenList.kept l.fn.tally.stored l.tally.stored l.fn.list l.list;
  grows : Grows (the_state l.fn.tally l.fn.table (g.L.OpenList.bag l.fn.list)) (the_state l.tally l.table (g.L.OpenList.bag l.list));
  limit : g.L.OpenList.limit l.list ≡ g.L.OpenList.limit l.fn.list;
}
