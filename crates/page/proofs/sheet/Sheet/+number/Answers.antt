use Rattle.std.proofs.Common.{rules, ◌∙◌, length-append}
use Rattle.std.proofs.lemmas.Fmt.{decimal_digit}
use Rattle.page.proofs.Digits.{length-decimal_step, length-decimal_digit, last-digit}
use Rattle.page.proofs.sheet.Sheet.+number.Goals as goal
use Rattle.page.proofs.sheet.Sheet.+number.Goals.{then-n-ge10, else-n-ge10}

pub number-requires : goal.number-requires
number-requires t c = search (rules, length-decimal_step)

pub push-requires : goal.push-requires
push-requires t c = elim c.if-n-ge10.branch [
  | then-n-ge10 w ↦ rw (w.self-is, w.number.ensures, length-append) (search (rules, length-decimal_step c.args.n))
  | else-n-ge10 w ↦ search (rules, length-decimal_digit)
]

pub returns : goal.returns
returns t c = elim c.if-n-ge10.branch [
  | then-n-ge10 w ↦ c.push.ensures ∙ last-digit _ _ c.args.n w.if-n-ge10.true (search rules) (w.self-is ∙ w.number.ensures)
  | else-n-ge10 w ↦ search (rules, decimal_digit)
]
