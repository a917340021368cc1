use Rattle.std.proofs.Common.{◌-◌, ◌<◌, refl, arith}
use Rattle.queue.proofs.Heaping.{held, popped, behind-popped, vacated}
use Rattle.queue.proofs.heap.Heap.pop.Goals as goal

pub returns-clause-bag : goal.returns-clause-bag
returns-clause-bag g c =
    let o = g.met.T.TotalOrder.total in
    let h = c.args.self.now in
    let some : 0 < h.count = held g.T.TotalOrder.before o h.slots.now h.count c.in_ok-top.top h.within c.in_ok-top.ensures in
    popped g.T.TotalOrder.before o h.slots.now c.swap.new.self c.sift_down.new.s h.count (h.count - 1) (omega arith) h.within c.requires c.swap.ensures.by_index c.sift_down.ensures.slots

pub returns-clause-kept : goal.returns-clause-kept
returns-clause-kept g c =
    let o = g.met.T.TotalOrder.total in
    let h = c.args.self.now in
    let some : 0 < h.count = held g.T.TotalOrder.before o h.slots.now h.count c.in_ok-top.top h.within c.in_ok-top.ensures in record {
      behind = behind-popped h.slots.now c.swap.new.self c.sift_down.new.s h.count (h.count - 1) (omega arith) c.swap.ensures.by_index c.sift_down.ensures.slots;
      given_up = λ d lt. vacated h.slots.now c.swap.new.self c.sift_down.new.s (h.count - 1) c.swap.ensures.by_index c.sift_down.ensures.slots d;
      lender = refl;
    }
