use Rattle.std.proofs.Common.{arith, rules, tests, get_or, None}
use Rattle.schedule.proofs.Passing.{row_of, rows_are}
use Rattle.model.proofs.Chains.{made-at}
use Rattle.schedule.specs.Rows.{blank}
use Rattle.schedule.proofs.checked.rows.Goals as goal

pub returns-clause-is : goal.returns-clause-is
returns-clause-is c =
    let q = c.args.q.now in
    rows_are c.from_fn.result q.places c.from_fn.ensures.items.long q.sized
    (λ k h. made-at (λ t. row_of (get_or q.places t None)) _ (λ x r p m. search (rules, tests)) c.from_fn.result 0 32 c.from_fn.ensures.items.each k blank (omega arith) (omega arith))
