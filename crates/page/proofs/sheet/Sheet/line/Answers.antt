use Rattle.std.proofs.Common.{arith, codes}
use Rattle.std.proofs.lemmas.Grind.{common_steps}
use Rattle.page.specs.Lines.{field_text}
use Rattle.page.proofs.Joining.{joined_first, joined_more}
use Rattle.page.proofs.sheet.Sheet.line.Goals as goal
use Rattle.page.proofs.sheet.Sheet.line.Goals.{then-i-gt0, else-i-gt0}

pub loop-i-preserved : goal.loop-i-preserved
loop-i-preserved c = elim c.if-i-gt0.branch [
  | then-i-gt0 w ↦ record { text = grind (arith, common_steps, joined_more field_text (codes " ") c.args.fields.now c.loop-i.i); len = grind (arith, common_steps) }
  | else-i-gt0 w ↦ record { text = grind (arith, common_steps, joined_first field_text (codes " ") c.args.fields.now); len = grind (arith, common_steps) }
]
