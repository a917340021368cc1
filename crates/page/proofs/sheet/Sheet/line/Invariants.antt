use Rattle.std.proofs.Common.{◌≡◌, ◌+◌, ◌*◌, ◌≤◌, ◌++◌, length, take, codes}
use Rattle.std.specs.List.{join_by}
use Rattle.page.specs.Lines.{field_text}
use Rattle.page.proofs.sheet.Sheet.line.Given as goal

abbrev pub invariant-loop-i : goal.invariant-loop-i
invariant-loop-i l = record {
  text : l.self ≡ l.initial.self ++ join_by field_text (codes " ") (take l.i l.fields);
  len : length l.self ≤ length l.initial.self + 30 * l.i;
}
