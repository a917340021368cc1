use Rattle.std.proofs.Common.{◌≡◌, ℕ, ◌<◌, List, length, map, drop, get_or, Result, IfOk, None, Some, Option, sym, refl, ap, subst, ◌∙◌, arith}
use Rattle.std.specs.List.{range_with_len}
use Rattle.std.proofs.lemmas.List.{get_or_append_left}
use Rattle.std.proofs.lemmas.Slice.{drop-append-drop}
use Rattle.std.proofs.lemmas.List.FromFn.{length-map-range_with_len, get_or-map-range_with_len}
use Rattle.model.specs.Graph.{Graph}
use Rattle.model.specs.Schedule.{Schedule, Feasible, makespan}
use Rattle.model.specs.Partial.{Partial, whole}
use Rattle.model.specs.Nodes.{node_at}
use Rattle.loader.specs.declared.graph.TaskGraph.{TaskGraph}
use Rattle.loader.specs.Meaning.{the_graph}
use Rattle.loader.proofs.Laws.{the_lawful}
use Rattle.partial.specs.declared.placement.Placement.{Placement}
use Rattle.schedule.specs.Rows.{blank, schedule_of}
use Rattle.schedule.proofs.Passing.{alike-feasible, alike-makespan}
use Rattle.search.specs.declared.fault.PageFault.{PageFault}
use Rattle.search.specs.Calls.{row_of, with_rows, best_fault, answer_or, left_or}
use Rattle.search.specs.Refused.{HoldsBest}
use Rattle.search.specs.Runs.{Moment}
use Rattle.search.specs.Promise.{length as best_length}
use Rattle.search.proofs.Refusing.{holds-best}

-- What written rows mean.

-- two schedules place the tasks below n alike
abbrev pub Agree : Schedule → Schedule → ℕ → Type 0
Agree s u n = (t : ℕ) → t < n → (s.machine t ≡ u.machine t) × (s.start t ≡ u.start t)

-- written rows mean the schedule that they were written from
pub row-written : (g : Graph) (s : Partial) (rows : List Placement) (t : ℕ) → t < g.tasks → get_or (with_rows g s rows) t blank ≡ row_of s t
row-written g s rows t h =
    let front : List Placement = map (row_of s) (range_with_len 0 g.tasks) in
    get_or_append_left front (drop g.tasks rows) blank t (subst (λ n. t < n) (sym (length-map-range_with_len (row_of s) 0 g.tasks)) h)
    ∙ get_or-map-range_with_len (row_of s) 0 g.tasks t t blank h (omega arith)

pub rows-agree : (g : Graph) (s : Partial) (rows : List Placement) → Agree (schedule_of (with_rows g s rows)) (whole s) g.tasks
rows-agree g s rows t h = let e = row-written g s rows t h in (ap (λ (r : Placement). r.machine) e, ap (λ (r : Placement). r.start) e)

-- the rows that best writes are feasible, and as long as it answers
pub best-written : (g : TaskGraph) (m : Moment) (old new : List Placement) (r : Result ℕ PageFault)
    → r ≡ answer_or (best_length m) (best_fault (the_graph g) m.sizes m.state m.limit (length old))
    → new ≡ left_or (with_rows (the_graph g) (node_at m.state.nodes 0).partial old) old (best_fault (the_graph g) m.sizes m.state m.limit (length old))
    → IfOk r (λ v. Feasible (the_graph g) (schedule_of new) × (makespan (the_graph g) (schedule_of new) ≡ v))
best-written g m old new r e w = rw e (go (best_fault G m.sizes m.state m.limit (length old)) refl w)
  where
    G : Graph
    G = the_graph g

    s : Partial
    s = (node_at m.state.nodes 0).partial

    go : (o : Option PageFault) → best_fault G m.sizes m.state m.limit (length old) ≡ o → new ≡ left_or (with_rows G s old) old o
        → IfOk (answer_or (best_length m) o) (λ v. Feasible G (schedule_of new) × (makespan G (schedule_of new) ≡ v))
    go (Some f) q w = tt
    go None q w =
        let h : HoldsBest G (node_at m.state.nodes 0) = holds-best g m (length old) q in
        let E = (the_lawful g).numbers.ends in
        rw w (
          alike-feasible G E (whole s) (schedule_of (with_rows G s old)) (λ t k. let a = rows-agree G s old t k in (sym a.0, sym a.1)) h.1,
          alike-makespan G (schedule_of (with_rows G s old)) (whole s) (rows-agree G s old) ∙ h.2,
        )

-- each row is the one of node 0, and those behind the last task are as they were
pub each-written : (g : Graph) (s : Partial) (x : ℕ) (o : Option PageFault) (old new : List Placement) (r : Result ℕ PageFault)
    → r ≡ answer_or x o → new ≡ left_or (with_rows g s old) old o → IfOk r (λ _. (t : ℕ) → t < g.tasks → get_or new t blank ≡ row_of s t)
each-written g s x o old new r e w = rw e (go o w)
  where
    go : (o : Option PageFault) → new ≡ left_or (with_rows g s old) old o → IfOk (answer_or x o) (λ _. (t : ℕ) → t < g.tasks → get_or new t blank ≡ row_of s t)
    go (Some f) w = tt
    go None w = λ t h. ap (λ rows. get_or rows t blank) w ∙ row-written g s old t h

pub behind-written : (g : Graph) (s : Partial) (x : ℕ) (o : Option PageFault) (old new : List Placement) (r : Result ℕ PageFault)
    → r ≡ answer_or x o → new ≡ left_or (with_rows g s old) old o → IfOk r (λ _. drop g.tasks new ≡ drop g.tasks old)
behind-written g s x o old new r e w = rw e (go o w)
  where
    go : (o : Option PageFault) → new ≡ left_or (with_rows g s old) old o → IfOk (answer_or x o) (λ _. drop g.tasks new ≡ drop g.tasks old)
    go (Some f) w = tt
    go None w = ap (drop g.tasks) w ∙ drop-append-drop g.tasks old (map (row_of s) (range_with_len 0 g.tasks)) g.tasks (omega arith) (length-map-range_with_len (row_of s) 0 g.tasks)
