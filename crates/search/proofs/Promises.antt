use Rattle.std.proofs.Common.{◌≡◌, ℕ, ◌≤◌, Bool, true, false, cond, ◌||◌, ltb, ◌↔◌, List, [], length, Some, None, sym, refl, arith}
use native.Mathlib.Decide.{dec_lt}
use Rattle.std.proofs.lemmas.Bool.{eq-eqb, le-ltb, ltb-false, and_from}
use Rattle.model.specs.Graph.{Graph, Lawful}
use Rattle.model.specs.Bounds.{Bound, IsLowerBound}
use Rattle.model.specs.Nodes.{SearchNode, node_at}
use Rattle.model.specs.Soundness.{is_complete}
use Rattle.model.proofs.Range.{every-from}
use Rattle.schedule.specs.ListSchedule.{listed}
use Rattle.schedule.proofs.Judging.{judged-feasible}
use Rattle.schedule.proofs.Listing.{facts, facts-complete}
use Rattle.astar.specs.Advance.{is_own}
use Rattle.astar.specs.Invariant.{Rooted}
use Rattle.astar.specs.Laws.{Standing}
use Rattle.astar.proofs.Starting.{opening-stands}
use Rattle.astar.proofs.Rooting.{rooted-opened, rooted-advanced}
use Rattle.astar.proofs.Advancing.{advance-keeps}
use Rattle.astar.proofs.Ending.{advance-meets}
use Rattle.astar.proofs.Floor.{least-best, floor-holds, best-is-feasible}
use Rattle.search.specs.declared.fault.SearchFault.TheVariants.{Table, List as NoRoom, Unsettled}
use Rattle.search.specs.Calls.{open_fault, is_best}
use Rattle.search.specs.Runs.{Moment, at_open, onward as after_advance, Settles, Run, Since}
use Rattle.search.specs.Runs.Run.{opened, advanced, asked, settled}
use Rattle.search.specs.Runs.Since.{same, later}
use Rattle.search.specs.Promise.{floor, length as best_length, best, Promise, Onward, KeptInRuns}

-- What holds at every point of a run, and the promise that follows from it.

-- the search stands
abbrev pub Stands : Graph → Moment → Type 0
Stands g m = Standing g m.sizes m.limit m.state

-- the floor is at most the best length, so settle is accepted exactly when they are equal
pub settles-of : (g : Graph) (m : Moment) → Stands g m → Settles g m ↔ (floor m ≡ best_length m)
settles-of g m S = rw S.own (low (ltb (floor m) (best_length m)) refl, high)
  where
    low : (s : Bool) → ltb (floor m) (best_length m) ≡ s → cond s (Some Unsettled) None ≡ None → floor m ≡ best_length m
    low true q e = cc
    low false q e = omega (arith, ltb-false _ _ q, least-best (best_length m) m.state.bag)

    high : floor m ≡ best_length m → cond (ltb (floor m) (best_length m)) (Some Unsettled) None ≡ None
    high q = rw (le-ltb (floor m) (best_length m) (omega (arith, q))) refl

-- where the search stands, each answer is the one promised
module _ (g : Graph) (m : Moment) where
  module _ (L : Lawful g) (S : Stands g m) where
    -- node 0 holds a schedule that the check passes with its makespan
    best-right : is_best g (node_at m.state.nodes 0) ≡ true
    unfolding is_complete
    best-right =
        let B = best-is-feasible g m.state L S.invariant in
        and_from _ _ (every-from g.tasks _ S.invariant.grown.best.1)
        (rw (judged-feasible g (best m) B.0) (eq-eqb _ _ (sym B.1)))

    promised : (b : Bound) (done : Bool) → IsLowerBound b → (done ≡ true → Settles g m) → Rooted g b m.state → Promise g b done m
    promised b done lower over root =
        let B = best-is-feasible g m.state L S.invariant in
        record {
          bounded = floor-holds g m.state L S.invariant;
          feasible = B.0;
          as_long = sym B.1;
          settles = settles-of g m S;
          shortest = λ e. (B.0, λ q F. omega (arith, B.1, (settles-of g m S).0 e, floor-holds g m.state L S.invariant q F));
          settled = over;
          meets = λ k e. let S' = (advance-keeps g b m.sizes m.limit k m.state L lower S).0 in
              (settles-of g (after_advance g b k m) S').1 (advance-meets g b m.sizes m.limit k m.state L S.invariant.listed.order e);
          unsettled = λ n. elim (dec_lt (floor m) (best_length m)) [
            | yes l ↦ l
            | no l ↦ absurd (n ((settles-of g m S).1 (omega (arith, l, least-best (best_length m) m.state.bag))))
          ];
          apart = S.invariant.apart;
          root = root;
          answers = rw S.own refl;
          writes = rw (S.own, best-right, le-ltb g.tasks g.tasks (omega arith)) refl;
          never = λ k. (advance-keeps g b m.sizes m.limit k m.state L lower S).3;
        }

-- open accepts a table of at least two nodes, with a list that can hold an entry for each
pub accepted : (ns : List SearchNode) (limit : ℕ) → open_fault ns [] limit ≡ None → (2 ≤ length ns) × (length ns ≤ limit)
accepted ns limit e = go (ltb (length ns) 2) (ltb 1048576 (length ns)) (ltb limit (length ns)) refl refl e
  where
    go : (a b c : Bool) → ltb (length ns) 2 ≡ a → ltb limit (length ns) ≡ c → cond (a || b) (Some Table) (cond c (Some NoRoom) None) ≡ None → (2 ≤ length ns) × (length ns ≤ limit)
    go true b c p q e = cc
    go false true c p q e = cc
    go false false true p q e = cc
    go false false false p q e = (ltb-false _ _ p, ltb-false _ _ q)

module _ (g : Graph) (b : Bound) (L : Lawful g) (lower : IsLowerBound b) where
  open-stands : (ns : List SearchNode) (limit : ℕ) → open_fault ns [] limit ≡ None → Stands g (at_open g b ns limit)
  open-stands ns limit e =
      let F = facts g L g.tasks (omega arith) in
      let a = accepted ns limit e in
      opening-stands g b (listed g g.tasks) ns limit L lower F.reachable (facts-complete g L (listed g g.tasks) F) a.0 a.1

  -- at every point of a run the search stands
  pub run-stands : {done : Bool} {m : Moment} → Run g b done m → Stands g m
  run-stands (opened ns limit e) = open-stands ns limit e
  run-stands (advanced {m = m} k r) = (advance-keeps g b m.sizes m.limit k m.state L lower (run-stands r)).0
  run-stands (asked r) = run-stands r
  run-stands (settled r s) = run-stands r

  -- and node 1 is the root
  run-rooted : {done : Bool} {m : Moment} → Run g b done m → Rooted g b m.state
  run-rooted (opened ns limit e) = rooted-opened g b (listed g g.tasks) ns (accepted ns limit e).0
  run-rooted (advanced {m = m} k r) = rooted-advanced g b m.sizes m.limit k m.state (run-rooted r)
  run-rooted (asked r) = run-rooted r
  run-rooted (settled r s) = run-rooted r

  -- its memory is its own
  pub run-owned : (done : Bool) (m : Moment) → Run g b done m → is_own g m.sizes m.state m.limit ≡ true
  run-owned done m r = (run-stands r).own

  -- and its best schedule can be written
  pub run-best : (done : Bool) (m : Moment) → Run g b done m → is_best g (node_at m.state.nodes 0) ≡ true
  run-best done m r = best-right g m L (run-stands r)

  -- a search is settled only where settle is accepted
  settled-settles : {done : Bool} {m : Moment} → Run g b done m → done ≡ true → Settles g m
  settled-settles (opened ns limit a) e = cc
  settled-settles (advanced k r) e = cc
  settled-settles (asked r) e = settled-settles r e
  settled-settles (settled r s) e = s

  pub run-settled : {m : Moment} → Run g b true m → Settles g m
  run-settled r = settled-settles r refl

  -- the promise is kept at every point
  pub promise : (done : Bool) (m : Moment) → Run g b done m → Promise g b done m
  promise done m r = promised g m L (run-stands r) b done lower (settled-settles r) (run-rooted r)

  -- from a point where the search stands it stands at each later one, and the bounds draw closer
  since-stands : {m n : Moment} → Stands g m → Since g b m n → Stands g n × Onward m n
  since-stands S same = (S, (omega arith, omega arith))
  since-stands S (later {n = n} k s) =
      let x = since-stands S s in
      let y = advance-keeps g b n.sizes n.limit k n.state L lower x.0 in
      (y.0, (omega (arith, x.1.0, y.1), omega (arith, x.1.1, y.2)))

  -- and from each point of a run to each later one
  pub onward : (done : Bool) (m n : Moment) → Run g b done m → Since g b m n → Onward m n
  onward done m n r s = (since-stands (run-stands r) s).1

  pub kept-in-runs : KeptInRuns g b
  kept-in-runs = record { promise = promise; onward = onward }
