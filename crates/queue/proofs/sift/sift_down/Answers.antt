use Rattle.std.proofs.Common.{arith}
use Rattle.queue.proofs.Sifting.{sinks, arranged-more}
use Rattle.queue.proofs.sift.sift_down.Goals as goal

pub loop-child-preserved : goal.loop-child-preserved
loop-child-preserved g c =
    let o = g.met.T.TotalOrder.total in
    let l = c.loop-child in
    let n = c.args.n in
    let child = c.in-Some.child in
    let k = c.in-Some.ensures in
    let zs = c.swap.new.self in (
      sinks g.T.TotalOrder.before o l.s zs l.at child n c.swap.ensures.by_index (λ d. cc (c.if-not-is_before.ensures d)) k.0 k.1 k.2 k.3 l.invariant.0,
      arranged-more n l.at child c.args.s.now l.s zs (omega arith) (omega arith) (omega arith) c.swap.ensures.by_index l.invariant.1,
    )
