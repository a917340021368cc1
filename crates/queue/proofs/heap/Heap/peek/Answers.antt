use Rattle.std.proofs.Common.{ap, ◌∙◌}
use Rattle.std.specs.List.{slice_get}
use Rattle.queue.proofs.Heaping.{peeked}
use Rattle.queue.proofs.heap.Heap.peek.Goals as goal

pub returns : goal.returns
returns g c =
    let o = g.met.T.TotalOrder.total in
    let h = c.args.self.now in
    c.copied.ensures ∙ c.first.ensures.value ∙ ap (λ l. slice_get l 0) c.entries.ensures ∙ peeked g.T.TotalOrder.before o h.slots.now h.count h.within c.requires
