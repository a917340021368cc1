use Rattle.std.proofs.Common.{refl, arith}
use Rattle.queue.proofs.Heaping.{pushed, behind-pushed}
use Rattle.queue.proofs.heap.Heap.push.Goals as goal

pub returns-clause-bag : goal.returns-clause-bag
returns-clause-bag g c =
    let o = g.met.T.TotalOrder.total in
    let h = c.args.self.now in
    pushed g.T.TotalOrder.before o h.slots.now c.sift_up.new.s h.count c.args.e (omega (arith, h.within)) c.sift_up.ensures.slots

pub returns-clause-kept : goal.returns-clause-kept
returns-clause-kept g c = let h = c.args.self.now in record {
  behind = behind-pushed h.slots.now c.sift_up.new.s h.count c.args.e c.sift_up.ensures.slots;
  given_up = λ d lt. absurd (omega (arith, lt));
  lender = refl;
}
