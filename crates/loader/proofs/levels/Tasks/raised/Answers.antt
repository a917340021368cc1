use Rattle.std.proofs.Common.{cond, eqb, length, get_or, arith}
use Rattle.model.proofs.Range.{top-le, cond-le}
use Rattle.loader.specs.View.{blank}
use Rattle.loader.proofs.levels.Tasks.raised.Goals as goal

pub overflow_add-next : goal.overflow_add-next
overflow_add-next c =
    let tasks = c.args.self.now in
    let ts = tasks.transfers.now in
    let low = c.args.low.now in
    omega (
      arith,
      tasks.small c.loop-t.t c.loop-t-test.true,
      c.from.ensures,
      c.greatest_after.ensures,
      top-le (length ts) (λ k. cond (eqb (get_or ts k blank).from c.loop-t.t) (get_or low (get_or ts k blank).to 0) 0) 64000
          (λ k h. cond-le (eqb (get_or ts k blank).from c.loop-t.t) _ 64000 (λ q. c.requires (get_or ts k blank).to (tasks.ends k h).1)),
    )
