use Rattle.std.proofs.Common.{◌≡◌, ℕ, ◌≤◌, ◌≢◌, Bool, true, false, cond, ◌||◌, ltb, List, [], length, Some, None, Option, Ok, Err, Result, MatchResult, IfOk, sym, refl, ap, ◌∙◌, subst, arith}
use Rattle.std.proofs.lemmas.Bool.{le-ltb, ltb-true}
use Rattle.model.specs.Graph.{Graph, Lawful}
use Rattle.model.specs.Schedule.{Schedule, Feasible, makespan}
use Rattle.model.specs.Bounds.{Bound}
use Rattle.model.specs.Nodes.{SearchNode}
use Rattle.loader.specs.declared.graph.TaskGraph.{TaskGraph}
use Rattle.loader.specs.Meaning.{the_graph}
use Rattle.loader.proofs.Laws.{the_lawful}
use Rattle.bag.specs.Bag.{InOrder}
use Rattle.queue.specs.declared.entry.Entry.{Entry}
use Rattle.queue.specs.Entries.{entry_before}
use Rattle.schedule.specs.ListSchedule.{listed}
use Rattle.astar.specs.declared.sizes.Sizes.{Sizes}
use Rattle.astar.specs.declared.outcome.Outcome.{Outcome}
use Rattle.astar.specs.declared.outcome.Outcome.TheVariants.{Strange, Met}
use Rattle.astar.specs.States.{SearchState, used}
use Rattle.astar.specs.Opening as opening
use Rattle.astar.specs.Advance as advance
use Rattle.astar.specs.Endings.{EndsBy, GoesOnTo}
use Rattle.astar.specs.Course.{Course}
use Rattle.astar.proofs.Ending.{advance-ends}
use Rattle.astar.specs.Laws as laws
use Rattle.astar.proofs.Floor.{floor-is-least}
use Rattle.astar.proofs.Starting.{opening-fills}
use Rattle.astar.proofs.Courses.{advance-visits}
use Rattle.search.specs.declared.fault.SearchFault.{SearchFault}
use Rattle.search.specs.declared.fault.SearchFault.TheVariants.{Table, List as NoRoom, Unsettled}
use Rattle.search.specs.Calls.{open_fault, floor_fault, settle_fault, best_fault, answer_or}
use Rattle.search.specs.Runs.{Moment, onward, Settles, Run, Since}
use Rattle.search.specs.Runs.Run.{opened, advanced, settled}
use Rattle.search.specs.Runs.Since.{later as longer}
use Rattle.search.specs.Promise.{floor, best, IsShortest, Promise, Promised, InRun, KeptInRuns}
use Rattle.search.specs.Promise as promise
use Rattle.search.proofs.Promises.{accepted, run-owned, kept-in-runs}

-- What each call answers and leaves in a run.

-- what an answer tells of a value holds of it
pub of-ok : {S E : Type 0} (A P : S → Type 0) (B : E → Type 0) (r : Result S E) → MatchResult r A B → ((s : S) → A s → P s) → IfOk r P
of-ok A P B (Ok s) m f = f s m
of-ok A P B (Err e) m f = tt

pub promised-to : (g : TaskGraph) → Promised (the_graph g)
promised-to g b lower = kept-in-runs (the_graph g) b (the_lawful g) lower

in-run : (g : TaskGraph) (done : Bool) (m : Moment) → (r : InRun (the_graph g) done m) → Promise (the_graph g) r.0 done m
in-run g done m r = (promised-to g r.0 r.1).promise done m r.2

-- a list that open accepts is empty
emptied : (ns : List SearchNode) (bag : List Entry) (limit : ℕ) → open_fault ns bag limit ≡ None → open_fault ns [] limit ≡ None
emptied ns bag limit = go (ltb (length ns) 2 || ltb 1048576 (length ns)) (ltb 0 (length bag)) (ltb limit (length ns))
  where
    go : (a b c : Bool) → cond a (Some Table) (cond (b || c) (Some NoRoom) None) ≡ None → cond a (Some Table) (cond c (Some NoRoom) None) ≡ None
    go true b c e = cc
    go false true c e = cc
    go false false c e = e

pub open-run : (g : Graph) (b : Bound) (ns : List SearchNode) (bag : List Entry) (limit end : ℕ) (z : Sizes) (w : SearchState) → open_fault ns bag limit ≡ None
    → z ≡ opening.sizes_of g ns → w ≡ opening.opened g b (listed g g.tasks) ns → end ≡ limit
    → Run g b false (record { sizes = z; state = w; limit = end })
open-run g b ns bag limit end z w e p q l = rw (p, q, l) (opened ns limit (emptied ns bag limit e))

-- what an accepted open fills the table and the list with
pub open-fills : (g : Graph) (b : Bound) (ns : List SearchNode) (bag : List Entry) (limit : ℕ) (w : SearchState) → open_fault ns bag limit ≡ None
    → w ≡ opening.opened g b (listed g g.tasks) ns → laws.Opens g b (listed g g.tasks) ns w
open-fills g b ns bag limit w e q = subst (laws.Opens g b (listed g g.tasks) ns) (sym q) (opening-fills g b (listed g g.tasks) ns (accepted ns limit (emptied ns bag limit e)).0)

-- where a call of advance leads
module _ (g : Graph) (b : Bound) (k : ℕ) (m : Moment) (z : Sizes) (w : SearchState) (limit : ℕ) (o : Outcome)
    (is : (w, o) ≡ advance.advanced g b m.sizes m.limit k m.state) (p : z ≡ m.sizes) (l : limit ≡ m.limit) where
  advance-leads : record { sizes = z; state = w; limit = limit } ≡ onward g b k m
  advance-leads = let q : w ≡ (advance.advanced g b m.sizes m.limit k m.state).0 = ap (λ (x : SearchState × Outcome). x.0) is in rw (p, q, l)

  pub advance-ended : Lawful g → InOrder entry_before m.state.bag → EndsBy g m.sizes m.limit k m.state (w, o) × GoesOnTo g b m.sizes m.limit k m.state w
  advance-ended L r =
      subst (λ (x : SearchState × Outcome). EndsBy g m.sizes m.limit k m.state x × GoesOnTo g b m.sizes m.limit k m.state x.0) (sym is)
      (advance-ends g b m.sizes m.limit k m.state L r)

  pub advance-course : Lawful g → InOrder entry_before m.state.bag → used m.state ≤ m.sizes.nodes → Course g b m.state w
  advance-course L r h = subst (Course g b m.state) (sym (ap (λ (x : SearchState × Outcome). x.0) is)) (advance-visits g b m.sizes m.limit k m.state L r h)

  pub advance-run : Run g b false m → Run g b false (record { sizes = z; state = w; limit = limit })
  advance-run r = subst (Run g b false) (sym advance-leads) (advanced k r)

  pub advance-since : (n : Moment) → Since g b n m → Since g b n (record { sizes = z; state = w; limit = limit })
  advance-since n s = subst (Since g b n) (sym advance-leads) (longer k s)

  pub advance-never : Promise g b false m → o ≢ Strange
  advance-never P e = P.never k (ap (λ (x : SearchState × Outcome). x.1) (sym is) ∙ e)

  pub advance-met : Promise g b false m → o ≡ Met → Settles g (record { sizes = z; state = w; limit = limit })
  advance-met P e = subst (Settles g) (sym advance-leads) (P.meets k (ap (λ (x : SearchState × Outcome). x.1) (sym is) ∙ e))

module _ (g : TaskGraph) (done : Bool) (m : Moment) (r : InRun (the_graph g) done m) where
  G : Graph
  G = the_graph g

  pub floor-run : (answer_or (floor m) (floor_fault (the_graph g) m.sizes m.state m.limit) ≡ Ok (floor m)) × ((p : Schedule) → Feasible (the_graph g) p → floor m ≤ makespan (the_graph g) p)
  floor-run = let P = in-run g done m r in (ap (answer_or (floor m)) P.answers, P.bounded)

  best-room : (rows : ℕ) → (the_graph g).tasks ≤ rows → best_fault (the_graph g) m.sizes m.state m.limit rows ≡ best_fault (the_graph g) m.sizes m.state m.limit (the_graph g).tasks
  best-room rows h =
      let G = the_graph g in
      let a : ltb rows G.tasks ≡ false = le-ltb rows G.tasks h in
      let b : ltb G.tasks G.tasks ≡ false = le-ltb G.tasks G.tasks (omega arith) in
      rw (a, b)

  pub best-run : (rows : ℕ) → (the_graph g).tasks ≤ rows
      → (answer_or (promise.length m) (best_fault (the_graph g) m.sizes m.state m.limit rows) ≡ Ok (makespan (the_graph g) (best m)))
      × Feasible (the_graph g) (best m)
  best-run rows h =
      let P = in-run g done m r in
      (ap (answer_or (promise.length m)) (best-room rows h ∙ P.writes) ∙ ap (λ y. Ok y) (sym P.as_long), P.feasible)

-- a settled search has a shortest schedule
pub shortest-run : (g : TaskGraph) (m : Moment) → InRun (the_graph g) true m → IsShortest (the_graph g) (best m)
shortest-run g m r = let P = in-run g true m r in P.shortest (P.settled refl)

-- what settle answers
pub settle-run : (g : Graph) (b : Bound) (m : Moment) → Run g b false m → Settles g m → Run g b true m
settle-run g b m r s = settled r s

module _ (g : TaskGraph) (m : Moment) (r : InRun (the_graph g) false m) where
  pub settle-accepts : Settles (the_graph g) m → (floor m ≡ promise.length m) × IsShortest (the_graph g) (best m)
  settle-accepts s = let P = in-run g false m r in (P.settles.0 s, P.shortest s)

  pub settle-refuses : (e : SearchFault) → Some e ≡ settle_fault (the_graph g) m.sizes m.state m.limit → (floor m ≡ promise.length m → ⊥) × (e ≡ Unsettled)
  settle-refuses e s = go (ltb (floor m) (promise.length m)) refl (s ∙ rw (run-owned (the_graph g) r.0 (the_lawful g) r.1 false m r.2) refl)
    where
      go : (b : Bool) → ltb (floor m) (promise.length m) ≡ b → Some e ≡ cond b (Some Unsettled) None → (floor m ≡ promise.length m → ⊥) × (e ≡ Unsettled)
      go true q z = ((λ k. absurd (omega (arith, ltb-true _ _ q, k))), cc)
      go false q z = cc

-- what floor answers is the least
pub floor-least : (w : SearchState) (o : Option SearchFault) (r : Result ℕ SearchFault) → InOrder entry_before w.bag
    → r ≡ answer_or (laws.floor w) o → IfOk r (laws.LeastOf w)
floor-least w o r i e = rw e (go o)
  where
    go : (o : Option SearchFault) → IfOk (answer_or (laws.floor w) o) (laws.LeastOf w)
    go None = floor-is-least w i
    go (Some f) = tt
