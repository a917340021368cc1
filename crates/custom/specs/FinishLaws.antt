use Rattle.std.specs.Prelude.{ℕ, ◌+◌, ◌≤◌}
use Rattle.std.proofs.Common.{subst}
use Rattle.model.specs.Schedule.{makespan}
use Rattle.model.specs.Bounds.{IsLowerBound}
use Rattle.model.proofs.Range.{le-top, top-le, cond-le}
use Rattle.custom.specs.Finishes.{finish_at, latest_finish}

-- The lemma that the ghost member `lower` cites.

-- a completion keeps what is placed, and ends no earlier
pub latest-lower : IsLowerBound latest_finish
latest-lower g s p lawful reachable within completion =
    top-le g.tasks (finish_at g s) (makespan g p) (λ t small. cond-le (s.placed t) (s.start t + g.work t) (makespan g p)
    (λ placed. subst (λ (start : ℕ). start + g.work t ≤ makespan g p) (completion.keeps t small placed).1
    (le-top g.tasks (λ u. p.start u + g.work u) t small)))
