use Rattle.std.proofs.Common.{◌+◌, arith}
use Rattle.queue.proofs.Sifting.{rises_to, arranged-more}
use Rattle.queue.proofs.sift.sift_up.Goals as goal

pub loop-above-preserved : goal.loop-above-preserved
loop-above-preserved g c =
    let o = g.met.T.TotalOrder.total in
    let l = c.loop-above in
    let n = c.args.last + 1 in
    let above = c.in-Some.above in
    let up = c.in-Some.ensures in
    let zs = c.swap.new.self in (
      omega arith,
      rises_to g.T.TotalOrder.before o l.s zs above l.at n up.1 c.swap.ensures.by_index (λ d. cc (c.if-not-is_before.ensures d)) (omega arith) (omega arith) l.invariant.1,
      arranged-more n above l.at c.args.s.now l.s zs (omega arith) (omega arith) (omega arith) c.swap.ensures.by_index l.invariant.2,
    )
