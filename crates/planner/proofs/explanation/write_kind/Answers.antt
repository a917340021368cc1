use Rattle.std.proofs.Common.{sym, ◌∙◌}
use Rattle.planner.proofs.explanation.write_kind.Goals as goal

pub returns-then-is_task : goal.returns-then-is_task
returns-then-is_task g c = rw (sym c.number-kind.ensures.value, sym c.is_task.ensures ∙ c.if-is_task.true) c.write.ensures.bytes

pub returns : goal.returns
returns g c = rw (sym c.number-kind.ensures.value, sym c.is_task.ensures ∙ c.if-is_task.false) c.write-2.ensures.bytes
