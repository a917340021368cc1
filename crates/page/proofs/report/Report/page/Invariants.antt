use Rattle.std.proofs.Common.{◌≡◌, ◌+◌, ◌*◌, ◌≤◌, ◌++◌, length}
use Rattle.page.specs.Lines.{line_text}
use Rattle.page.specs.Texts.{head_fields, task_lines}
use Rattle.page.specs.Reports.{page_of}
use Rattle.page.proofs.report.Report.page.Given as goal

abbrev pub invariant-loop-t : goal.invariant-loop-t
invariant-loop-t l = record {
  text : l.page ≡ line_text (head_fields (page_of l.self)) ++ task_lines (page_of l.self) l.t;
  len : length l.page ≤ 61 + 121 * l.t;
}
