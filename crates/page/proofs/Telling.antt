use Rattle.std.proofs.Common.{◌≡◌, ℕ, ◌≤◌, Bool, true, false, cond, ◌&&◌, List, ◌++◌, length, drop, Some, None, Option, Ok, Result, refl, ap, ◌∙◌, Err, is_ok, arith, take, codes, IfOk, sym, subst}
use borrow.Author.Clash.{clash}
use Rattle.std.proofs.lemmas.Bool.{le-ltb}
use Rattle.std.proofs.Math.Seq.{take-append_seam}
use Rattle.model.specs.Graph.{Graph}
use Rattle.model.specs.Nodes.{node_at}
use Rattle.loader.specs.declared.graph.TaskGraph.{TaskGraph}
use Rattle.loader.specs.Meaning.{the_graph}
use Rattle.partial.specs.declared.placement.Placement.{Placement}
use Rattle.schedule.specs.Rows.{schedule_of}
use Rattle.astar.specs.declared.tally.Tally.{Tally}
use Rattle.astar.specs.Advance.{is_own}
use Rattle.search.specs.declared.fault.SearchFault.TheVariants.{Foreign}
use Rattle.search.specs.declared.fault.PageFault.{PageFault}
use Rattle.search.specs.declared.fault.PageFault.TheVariants.{Search, Short}
use Rattle.search.specs.Calls.{is_best, best_fault, floor_fault, answer_or, left_or, with_rows}
use Rattle.search.specs.Runs.{Moment}
use Rattle.search.specs.Promise.{floor, IsShortest, InRun}
use Rattle.search.specs.Promise as promise
use Rattle.loader.proofs.Laws.{the_lawful}
use Rattle.refusal.specs.Refusing.{Refuses}
use Rattle.search.specs.Refusals.{page_refusal}
use Rattle.search.specs.Refused.{WriteRefused}
use Rattle.search.proofs.Refusing.{refuses-by, write-tells}
use Rattle.search.proofs.Calls.{promised-to}
use Rattle.page.specs.Texts.{report_text}
use Rattle.page.specs.Pages.{closing_of, page_of, text_of, short_fault, page_fault, Truthful, LastWord, EndsAs}
use Rattle.search.proofs.Written.{rows-agree}
use Rattle.page.proofs.Texts.{text-agrees}
use Rattle.page.proofs.LastWords.{closed-by, not-both}

-- What a page tells, by the answers of the search.

-- an answer is the value, and nothing is refused
answers : {A E : Type 0} (x y : A) (o : Option E) → Ok y ≡ answer_or x o → (y ≡ x) × (o ≡ None)
answers x y None e = (cc, refl)
answers x y (Some f) e = cc

-- best refuses nothing only where the memory is the search's and its best schedule can be written
granted : (a s : Bool) → cond a (cond s (Some Short) None) (Some (Search Foreign)) ≡ None → a ≡ true
granted true s e = refl
granted false s e = cc

-- where best and floor answer, the report's text is the page's, and only a short buffer is refused
module _ (g : Graph) (settled : Bool) (m : Moment) (rows old : List Placement) (y v : ℕ) (tally : Tally)
    (best : Ok y ≡ answer_or (promise.length m) (best_fault g m.sizes m.state m.limit (length old)))
    (written : rows ≡ left_or (with_rows g (node_at m.state.nodes 0).partial old) old (best_fault g m.sizes m.state m.limit (length old)))
    (low : Ok v ≡ answer_or (floor m) (floor_fault g m.sizes m.state m.limit))
    (counted : tally ≡ m.state.tally) where
  abbrev told : List ℕ
  told = report_text (record { graph = g; schedule = schedule_of rows; length = y; floor = v; tally = tally; closing = closing_of settled })

  told-is : told ≡ text_of g settled m
  told-is =
      let b = answers (promise.length m) y _ best in
      let f = answers (floor m) v _ low in
      let w : rows ≡ with_rows g (node_at m.state.nodes 0).partial old = written ∙ ap (left_or _ old) b.1 in
      rw (b.0, f.0, w, counted) (text-agrees (page_of g settled m) _ _ (rows-agree g (node_at m.state.nodes 0).partial old))

  only-short : (room : ℕ) → page_fault g settled m room ≡ short_fault (length (text_of g settled m)) room
  only-short room =
      let own : (is_own g m.sizes m.state m.limit && is_best g (node_at m.state.nodes 0)) ≡ true = granted _ _ (answers _ _ _ best).1 in
      rw own refl

  pub page-told : (before after : List ℕ) (result : Result ℕ PageFault)
      → result ≡ answer_or (length told) (short_fault (length told) (length before))
      → after ≡ left_or (told ++ drop (length told) before) before (short_fault (length told) (length before))
      → (result ≡ answer_or (length (text_of g settled m)) (page_fault g settled m (length before)))
      × (after ≡ left_or (text_of g settled m ++ drop (length (text_of g settled m)) before) before (page_fault g settled m (length before)))
  page-told before after result is buffer = let s = only-short (length before) in (is ∙ rw (told-is, s) refl, buffer ∙ rw (told-is, s) refl)

  -- it has room where the report has
  pub roomy : length told ≤ 4400 → length (text_of g settled m) ≤ 4400
  roomy h = omega (arith, h, ap length told-is)

-- an answer is no refusal
pub never : {A E C : Type 0} (x : A) (e : E) → Ok x ≡ Err e → C
never {E = E} x e q = clash (is_ok {E = E} (Ok x)) refl (ap is_ok q)

-- in a run the page is written, given room, and what it tells is so
module _ (g : TaskGraph) (settled done : Bool) (m : Moment) (r : InRun (the_graph g) done m) where
  pub truthful : Truthful done (page_of (the_graph g) settled m)
  truthful =
      let P = (promised-to g r.0 r.1).promise done m r.2 in
      record { bounded = P.bounded; feasible = P.feasible; as_long = P.as_long; shortest = λ e. P.shortest (P.settled e) }

  pub nothing-refused : (room : ℕ) → length (text_of (the_graph g) settled m) ≤ room → page_fault (the_graph g) settled m room ≡ None
  nothing-refused room h =
      let P = (promised-to g r.0 r.1).promise done m r.2 in
      let own : (is_own (the_graph g) m.sizes m.state m.limit && is_best (the_graph g) (node_at m.state.nodes 0)) ≡ true = granted _ _ P.writes in
      rw (own, le-ltb room (length (text_of (the_graph g) settled m)) h) refl

  pub run-told : (room : ℕ) (result : Result ℕ PageFault)
      → result ≡ answer_or (length (text_of (the_graph g) settled m)) (page_fault (the_graph g) settled m room)
      → length (text_of (the_graph g) settled m) ≤ room
      → (result ≡ Ok (length (text_of (the_graph g) settled m))) × Truthful done (page_of (the_graph g) settled m)
  run-told room result is h = (is ∙ ap (answer_or _) (nothing-refused room h), truthful)

-- a search that goes on ends with open, and a settled one with shortest
pub ends-open : (g : Graph) (m : Moment) → EndsAs false (text_of g false m)
ends-open g m =
    let last = closed-by (page_of g false m) in
    record { shortest = ((λ x. absurd (not-both _ last x)), (λ e. cc)); going_on = ((λ x. refl), (λ e. last)) }

pub ends-shortest : (g : Graph) (m : Moment) → EndsAs true (text_of g true m)
ends-shortest g m =
    let last = closed-by (page_of g true m) in
    record { shortest = ((λ x. refl), (λ e. last)); going_on = ((λ x. absurd (not-both _ x last)), (λ e. cc)) }

-- in a run what ends with shortest is
pub never-shortest : {C : Type 0} (g : Graph) (m : Moment) → LastWord (text_of g false m) (codes "shortest") → C
never-shortest g m x = absurd (not-both _ (closed-by (page_of g false m)) x)

pub is-shortest : (g : TaskGraph) (m : Moment) → InRun (the_graph g) true m → IsShortest (the_graph g) (promise.best m)
is-shortest g m r = (truthful g true true m r).shortest refl

-- the last line of what is written
pub last-written : (text word : List ℕ) (o : Option PageFault) (old new : List ℕ) (r : Result ℕ PageFault)
    → r ≡ answer_or (length text) o → new ≡ left_or (text ++ drop (length text) old) old o → LastWord text word → IfOk r (λ n. LastWord (take n new) word)
last-written text word o old new r e w l = rw e (go o w)
  where
    go : (o : Option PageFault) → new ≡ left_or (text ++ drop (length text) old) old o → IfOk (answer_or (length text) o) (λ n. LastWord (take n new) word)
    go (Some f) w = tt
    go None w = subst (λ t. LastWord t word) (sym (ap (take (length text)) w ∙ take-append_seam text (drop (length text) old))) l

-- and a page is refused as it says
pub page-refuses : (g : TaskGraph) (settled : Bool) (m : Moment) (room : ℕ) (result : Result ℕ PageFault)
    → result ≡ answer_or (length (text_of (the_graph g) settled m)) (page_fault (the_graph g) settled m room)
    → Refuses (WriteRefused (the_graph g) m.sizes m.limit m.state (length (text_of (the_graph g) settled m)) room) page_refusal result
page-refuses g settled m room result e =
    refuses-by _ page_refusal (length (text_of (the_graph g) settled m)) (page_fault (the_graph g) settled m room) result e
    (write-tells (the_graph g) (the_lawful g) m.sizes m.limit m.state (length (text_of (the_graph g) settled m)) room)
