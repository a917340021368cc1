use Rattle.std.specs.Prelude.{ℕ, ◌≤◌, length, Vec, vec_capacity}
use Rattle.std.proofs.Common.{subst}

-- The lemma that the ghost member `bounded` cites.

pub has-room : {X Z : Type 0} (v : Vec X Z) → length v.items ≤ vec_capacity v
has-room v = subst (λ (n : ℕ). n ≤ vec_capacity v) v.ok.0 v.ok.1
