use Rattle.std.proofs.Common.{◌≡◌, ◌-◌, ◌≤◌, max}
use Rattle.nodes.proofs.table.Table.link_below.Given as goal

abbrev pub invariant-loop-self : goal.invariant-loop-self
invariant-loop-self l = record {
  nodes : l.self.nodes ≡ l.initial.self.nodes;
  above : l.initial.self.linked ≤ l.self.linked;
  below : l.self.linked ≤ max l.initial.self.linked l.end;
}

abbrev pub decreases-loop-self : goal.decreases-loop-self
decreases-loop-self l = l.end - l.self.linked
