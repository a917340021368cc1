use Rattle.std.proofs.Common.{◌≡◌, ℕ, ◌<◌, true}
use Rattle.queue.specs.Entries.{entry_before}
use Rattle.chain.specs.Cells.{entry_at}
use Rattle.chain.specs.Chains.{cells_of, step_of, passed_last}
use Rattle.chain.proofs.links.Links.place.Given as goal

abbrev pub invariant-loop-steps : goal.invariant-loop-steps
invariant-loop-steps l =
    (l.previous ≡ passed_last l.self l._steps) × (l.next ≡ step_of l.self l._steps)
    × ((i : ℕ) → i < l._steps → entry_before (entry_at (cells_of l.self) (step_of l.self i)) l.e ≡ true)
