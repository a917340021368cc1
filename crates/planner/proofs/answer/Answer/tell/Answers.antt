use Rattle.std.proofs.Common.{sym}
use Rattle.planner.proofs.answer.Answer.tell.Goals as goal

pub returns-in-Refused : goal.returns-in-Refused
returns-in-Refused g c = rw (c.in-Refused.is, sym c.as_slice.ensures.value) c.write_explanation.ensures

pub returns-in-Unreadable : goal.returns-in-Unreadable
returns-in-Unreadable g c = rw c.in-Unreadable.is c.write_all-in-Unreadable.ensures.bytes
