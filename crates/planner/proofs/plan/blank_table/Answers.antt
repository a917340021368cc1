use Rattle.std.proofs.Common.{rules}
use Rattle.planner.proofs.Blanks.{blank-nodes}
use Rattle.planner.proofs.plan.blank_table.Goals as goal

pub returns-in-Ok : goal.returns-in-Ok
returns-in-Ok c = blank-nodes c.args.nodes _ _ _ (search rules) (c.in_ok-vec.ensures.items_if_clones_equal (λ y q. q)) c.in-Ok.ensures
