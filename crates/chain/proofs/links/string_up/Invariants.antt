use Rattle.std.proofs.Common.{◌≡◌, ℕ, ◌<◌, ◌≤◌, get_or}
use Rattle.chain.specs.Cells.{blank, strung}
use Rattle.chain.proofs.links.string_up.Given as goal

abbrev pub invariant-loop-i : goal.invariant-loop-i
invariant-loop-i l =
    ((k : ℕ) → k < l.i → get_or l.cells k blank ≡ strung l.initial.cells k)
    × ((k : ℕ) → l.i ≤ k → get_or l.cells k blank ≡ get_or l.initial.cells k blank)
