use Rattle.std.proofs.Common.{◌≡◌, ℕ, ◌<◌, true, length, Some, sym, ap, ◌∙◌, add-one, below_more, rules}
use Rattle.queue.specs.Entries.{entry_before}
use Rattle.chain.specs.Cells.{entry_at}
use Rattle.chain.specs.Chains.{step_of, passed_last}
use Rattle.chain.proofs.Walks.{step-more}
use Rattle.chain.proofs.Inside.{step_inside}
use Rattle.chain.proofs.links.Links.place.Goals as goal

pub offset_bounds-self-next : goal.offset_bounds-self-next
offset_bounds-self-next c =
    let s = c.args.self.now in
    let l = c.loop-steps in
    let inside : l.next < length s.cells.now = step_inside s l._steps l.next l.invariant.1 c.loop-steps-test.true in
    search rules

pub bounds-self-next : goal.bounds-self-next
bounds-self-next c = let l = c.loop-steps in step_inside c.args.self.now l._steps l.next l.invariant.1 c.loop-steps-test.true

pub loop-steps-preserved : goal.loop-steps-preserved
loop-steps-preserved c =
    let s = c.args.self.now in
    let xs = s.cells.now in
    let l = c.loop-steps in (
      ap Some l.invariant.1 ∙ ap (passed_last s) (sym (add-one l._steps)),
      step-more xs l._steps s.head l.next l.invariant.1,
      below_more (λ (i : ℕ). entry_before (entry_at xs (step_of s i)) c.args.e ≡ true) l._steps l.invariant.2
          (ap (λ (x : ℕ). entry_before (entry_at xs x) c.args.e) (sym l.invariant.1) ∙ sym c.if-not-comes_before.ensures),
    )
