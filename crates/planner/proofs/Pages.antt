use Rattle.std.proofs.Common.{◌≡◌, ℕ, ◌≤◌, Bool, List, ◌++◌, length, drop, Ok, Result, sym, refl, ap, ◌∙◌, subst, arith}
use Rattle.model.specs.Graph.{Graph}
use Rattle.model.specs.Bounds.{Bound, IsLowerBound, joined_bound}
use Rattle.model.proofs.Paths.{path-lower, arrival-lower, larger-lower}
use Rattle.model.proofs.Loads.{load-lower}
use Rattle.loader.specs.declared.graph.TaskGraph.{TaskGraph}
use Rattle.loader.specs.Meaning.{the_graph}
use Rattle.queue.specs.declared.entry.Entry.{Entry}
use Rattle.nodes.specs.declared.table.Table.{Table}
use Rattle.search.specs.declared.fault.PageFault.{PageFault}
use Rattle.search.specs.Calls.{answer_or, left_or}
use Rattle.search.specs.Runs.{Moment}
use Rattle.search.specs.Promise.{InRun}
use Rattle.solve.specs.declared.solve.Solved.{Solved}
use Rattle.solve.specs.declared.solve.Solved.TheVariants.{Shortest, Open}
use Rattle.solve.specs.Solving.{end_of, is_shortest, would_settle, Solves}
use Rattle.page.specs.Texts.{report_text}
use Rattle.page.specs.Pages.{page_of, text_of, page_fault, Truthful}
use Rattle.planner.specs.Limits.{limit_of, limit_at, expanded_in}
use Rattle.planner.specs.Planning.{page_at}
use Rattle.page.proofs.Telling.{nothing-refused, truthful}

-- The page of what a search came to.

-- the search ended in a run, settled where a shortest schedule is known
pub in-run : (g : Graph) (b : Bound) → IsLowerBound b → (t : Table) (bag : List Entry) (limit : ℕ) (s : Solved) → Solves g b t bag limit s → InRun g (is_shortest s) (end_of t bag limit s)
in-run g b lower t bag limit (Shortest d) S = (b, lower, S.0)
in-run g b lower t bag limit (Open s) S = (b, lower, S.0)

-- what is written at the end
pub written : (g : TaskGraph) (flag : Bool) (m : Moment) (r : Result ℕ PageFault) (old new : List ℕ)
    → InRun (the_graph g) flag m
    → length (text_of (the_graph g) flag m) ≤ 4400 → 4400 ≤ length old
    → r ≡ answer_or (length (text_of (the_graph g) flag m)) (page_fault (the_graph g) flag m (length old))
    → new ≡ left_or (text_of (the_graph g) flag m ++ drop (length (text_of (the_graph g) flag m)) old) old (page_fault (the_graph g) flag m (length old))
    → (r ≡ Ok (length (text_of (the_graph g) flag m)))
    × (new ≡ text_of (the_graph g) flag m ++ drop (length (text_of (the_graph g) flag m)) old)
    × Truthful flag (page_of (the_graph g) flag m)
written g flag m r old new run few room is buffer =
    let h : length (text_of (the_graph g) flag m) ≤ length old = omega (arith, few, room) in
    let n = nothing-refused g flag flag m run (length old) h in
    (is ∙ ap (answer_or _) n, buffer ∙ ap (left_or _ old) n, truthful g flag flag m run)

-- a result, and a buffer before and after: the page of a moment was written, and what it tells is so
abbrev pub End : Graph → Moment → Result ℕ PageFault → List ℕ → List ℕ → Type 0
End g m r old new =
    (r ≡ Ok (length (report_text (page_at g m))))
    × (new ≡ report_text (page_at g m) ++ drop (length (report_text (page_at g m))) old)
    × Truthful (would_settle g m) (page_at g m)

pub joined-lower : IsLowerBound joined_bound
joined-lower = larger-lower _ _ (larger-lower _ _ path-lower load-lower) arrival-lower

-- what a search came to is written as it ended
pub at-end : (g : TaskGraph) (t : Table) (bag : List Entry) (limit : ℕ) (s : Solved) (end : Moment) (r : Result ℕ PageFault) (old new : List ℕ)
    → end_of t bag limit s ≡ end → is_shortest s ≡ would_settle (the_graph g) end
    → Solves (the_graph g) joined_bound t bag limit s
    → ((done : Bool) → InRun (the_graph g) done (end_of t bag limit s) → length (text_of (the_graph g) (is_shortest s) (end_of t bag limit s)) ≤ 4400)
    → 4400 ≤ length old
    → r ≡ answer_or (length (text_of (the_graph g) (is_shortest s) (end_of t bag limit s))) (page_fault (the_graph g) (is_shortest s) (end_of t bag limit s) (length old))
    → new ≡ left_or (text_of (the_graph g) (is_shortest s) (end_of t bag limit s) ++ drop (length (text_of (the_graph g) (is_shortest s) (end_of t bag limit s))) old) old
    (page_fault (the_graph g) (is_shortest s) (end_of t bag limit s) (length old))
    → End (the_graph g) end r old new
at-end g t bag limit s end r old new e f S room long is buffer =
    let m : Moment = end_of t bag limit s in
    let run = in-run (the_graph g) joined_bound joined-lower t bag limit s S in
    let w = written g (is_shortest s) m r old new run (room (is_shortest s) run) long is buffer in
    subst (λ (n : Moment). is_shortest s ≡ would_settle (the_graph g) n → End (the_graph g) n r old new) e
    (λ k. subst (λ flag. (r ≡ Ok (length (text_of (the_graph g) flag m))) × (new ≡ text_of (the_graph g) flag m ++ drop (length (text_of (the_graph g) flag m)) old) × Truthful flag (page_of (the_graph g) flag m)) k w) f

-- as many nodes were expanded at the end as the search counted
expanded-at : (t : Table) (bag : List Entry) (limit : ℕ) (s : Solved) → (end_of t bag limit s).state.tally.expanded ≡ expanded_in s
expanded-at t bag limit (Shortest d) = refl
expanded-at t bag limit (Open s) = refl

-- what ended the search is told of that moment
pub limit-end : (g : Graph) (t : Table) (bag : List Entry) (limit : ℕ) (s : Solved) (end : Moment) (k : ℕ)
    → end_of t bag limit s ≡ end → is_shortest s ≡ would_settle g end → limit_of (is_shortest s) (expanded_in s) k ≡ limit_at g k end
limit-end g t bag limit s end k e f =
    ap (λ w. limit_of w (expanded_in s) k) f
    ∙ ap (λ n. limit_of (would_settle g end) n k) (sym (expanded-at t bag limit s) ∙ ap (λ (m : Moment). m.state.tally.expanded) e)

-- a result tells one value
pub one-value : {A E : Type 0} (x y : A) (r : Result A E) → r ≡ Ok x → r ≡ Ok y → x ≡ y
one-value x y r p q = let h = sym p ∙ q in cc
