use Rattle.std.proofs.Common.{◌≡◌, ℕ, ◌+◌, ◌<◌, Bool, true, false, List, [], Some, None, Option, refl, ap, arith}
use Rattle.std.specs.Prelude.{◌==◌, is_none}
use Rattle.std.proofs.lemmas.Bool.{eq-eqb, eqb-true}
use Rattle.model.specs.Graph.{Graph, Lawful}
use Rattle.model.specs.Bounds.{Bound, IsLowerBound}
use Rattle.model.specs.Nodes.{SearchNode}
use Rattle.astar.specs.Advance.{advanced as advance}
use Rattle.astar.specs.Endings.{Applies, outcome_of, EndsBy}
use Rattle.astar.specs.Endings.Applies.{foreign, none_below, spent, unsound, cramped}
use Rattle.astar.proofs.Ending.{advance-ends}
use Rattle.search.specs.Calls.{open_fault}
use Rattle.search.specs.Runs.{Moment, at_open, onward, Run, Settles}
use Rattle.search.specs.Runs.Run.{opened, advanced}
use Rattle.search.specs.Promise.{floor, length, Promise}
use Rattle.search.proofs.Promises.{run-stands, promise}
use Rattle.solve.specs.Solving.{ended, would_settle}
use Rattle.planner.specs.Limits.{limit_of, limit_at, EndedBy}

-- What ends a search that is advanced once.

none-of : {X : Type 0} (x : Option X) → is_none x ≡ true → x ≡ None
none-of None q = refl
none-of (Some y) q = cc

module _ (g : Graph) (b : Bound) (L : Lawful g) (lower : IsLowerBound b) (ns : List SearchNode) (limit k : ℕ) (accepted : open_fault ns [] limit ≡ None) where
  abbrev start : Moment
  start = at_open g b ns limit

  abbrev end : Moment
  end = onward g b k start

  abbrev allowed : ℕ
  allowed = start.state.tally.expanded + k

  first : Run g b false start
  first = opened ns limit accepted

  before : Promise g b false start
  before = promise g b L lower false start first

  after : Promise g b false end
  after = promise g b L lower false end (advanced k first)

  ends : EndsBy g start.sizes limit k start.state (advance g b start.sizes limit k start.state)
  ends = (advance-ends g b start.sizes limit k start.state L (run-stands g b L lower first).invariant.listed.order).0

  -- where the floor is below the length, one of two tests ended the advance
  open-end : floor end < length end → (n : ℕ) → Applies g start.sizes limit allowed end.state n
      → ((m : ℕ) → m < n → Applies g start.sizes limit allowed end.state m → ⊥)
      → (advance g b start.sizes limit k start.state).1 ≡ outcome_of n
      → (e : Bool) → (end.state.tally.expanded == k) ≡ e → EndedBy g k end (limit_of false end.state.tally.expanded k)
  open-end l n (foreign f) least is e q = absurd (before.never k is)
  open-end l n (unsound f) least is e q = absurd (before.never k is)
  open-end l n (none_below f) least is e q = let m = after.settles.0 (before.meets k is) in absurd (omega (arith, l, m))
  open-end l n (spent s) least is e q = let t : end.state.tally.expanded ≡ k = omega (arith, s) in rw (eq-eqb _ _ t) (l, t)
  open-end l n (cramped c) least is true q =
      let t = eqb-true _ _ q in
      absurd (least 3 (omega arith) (spent (omega (arith, t))))
  open-end l n (cramped c) least is false q = rw q (l, (λ s. let t = eq-eqb _ _ s in cc), c)

  pub ended-by : EndedBy g k (ended g b ns limit k 1) (limit_at g k (ended g b ns limit k 1))
  ended-by = go (would_settle g end) refl
    where
      go : (w : Bool) → would_settle g end ≡ w → EndedBy g k end (limit_of w end.state.tally.expanded k)
      go true q = after.settles.0 (none-of _ q)
      go false q =
          let n : Settles g end → ⊥ = λ s. let t = ap is_none s in cc in
          open-end (after.unsettled n) ends.0 ends.1 ends.2 ends.3 (end.state.tally.expanded == k) refl
