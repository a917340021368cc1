use Rattle.std.proofs.Common.{◌≡◌, ◌≤◌, min, if◌then◌else◌, ◌==◌}
use Rattle.nodes.proofs.table.Table.unlink_from.Given as goal

abbrev pub invariant-loop-self : goal.invariant-loop-self
invariant-loop-self l = record {
  nodes : l.self.nodes ≡ l.initial.self.nodes;
  above : (if l.i == 0 then l.initial.self.linked else min l.initial.self.linked l.i) ≤ l.self.linked;
  below : l.self.linked ≤ l.initial.self.linked;
}

abbrev pub decreases-loop-self : goal.decreases-loop-self
decreases-loop-self l = l.self.linked
