use Rattle.std.specs.Prelude.{◌≡◌, ℕ, ◌≤◌, ◌↔◌, Bool, true, false, if◌then◌else◌, nat_lt, List, [], ◌∷◌, ◌++◌, length, codes, Some, None, Option}
use Rattle.model.specs.Graph.{Graph}
use Rattle.model.specs.Schedule.{Schedule, Feasible, makespan}
use Rattle.search.specs.declared.fault.SearchFault.TheVariants.{Foreign}
use Rattle.search.specs.declared.fault.PageFault.{PageFault}
use Rattle.search.specs.declared.fault.PageFault.TheVariants.{Search, Short}
use Rattle.search.specs.Calls.{has_best}
use Rattle.search.specs.Runs.{Moment}
use Rattle.search.specs.Promise.{floor, best, IsShortest}
use Rattle.search.specs.Promise as promise
use Rattle.page.specs.declared.closing.Closing.{Closing}
use Rattle.page.specs.declared.closing.Closing.TheVariants.{Open, Shortest}
use Rattle.page.specs.Texts.{Page, report_text}

-- how the page of a search ends, settled or not
abbrev pub closing_of : Bool → Closing
closing_of true = Shortest
closing_of false = Open

-- the page of a search: the best schedule, its length, the floor, and what the search has done
abbrev pub page_of : Graph → Bool → Moment → Page
page_of g settled m = record {
  graph = g;
  schedule = best m;
  length = promise.length m;
  floor = floor m;
  tally = m.state.tally;
  closing = closing_of settled;
}

abbrev pub text_of : Graph → Bool → Moment → List ℕ
text_of g settled m = report_text (page_of g settled m)

-- a buffer has less room than the text needs
abbrev pub short_fault : ℕ → ℕ → Option PageFault
short_fault needed room = if nat_lt room needed then Some Short else None

-- why no page is written: the memory is not this search's, node 0 does not hold a schedule with its makespan, or the
-- buffer is shorter than the text
abbrev pub page_fault : Graph → Bool → Moment → ℕ → Option PageFault
page_fault g settled m room =
    if has_best g m.sizes m.state m.limit
    then short_fault (length (text_of g settled m)) room
    else Some (Search Foreign)

-- what a page tells in a run is so: no feasible schedule is shorter than the floor, its own schedule is feasible and as
-- long as it says, and once the search is settled, no feasible schedule is shorter
pub record Truthful (done : Bool) (p : Page) : Type 0 where
  pub bounded : (q : Schedule) → Feasible p.graph q → p.floor ≤ makespan p.graph q
  pub feasible : Feasible p.graph p.schedule
  pub as_long : makespan p.graph p.schedule ≡ p.length
  pub shortest : done ≡ true → IsShortest p.graph p.schedule

-- the last line of a text is this word
abbrev pub LastWord : List ℕ → List ℕ → Type 0
LastWord text word = (front : List ℕ) × (text ≡ front ++ 10 ∷ (word ++ 10 ∷ []))

-- a text ends with the word shortest exactly where the search is settled, else with open
pub record EndsAs (settled : Bool) (text : List ℕ) : Type 0 where
  pub shortest : LastWord text (codes "shortest") ↔ (settled ≡ true)
  pub going_on : LastWord text (codes "open") ↔ (settled ≡ false)
