use Rattle.std.proofs.Common.{◌≡◌, ℕ, ◌+◌, ◌++◌, map, length, take}
use Rattle.children.specs.Choices.{pairs_of}
use Rattle.children.proofs.choices.add.Given as goal

abbrev pub invariant-loop-m : goal.invariant-loop-m
invariant-loop-m l = record {
  added : pairs_of l.list ≡ pairs_of l.fn.list ++ map (λ (m : ℕ). (l.t, m)) (take l.m-index l.machines);
  long : length l.list ≡ length l.fn.list + l.m-index;
}
