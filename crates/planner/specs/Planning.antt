use Rattle.std.specs.Prelude.{◌≡◌, ℕ, List, ◌++◌, length, drop, Ok, Err, Result, Option, replicate, ⊤}
use Rattle.model.specs.Graph.{Graph}
use Rattle.model.specs.Bounds.{joined_bound}
use Rattle.model.specs.Nodes.{no_node}
use Rattle.loader.specs.declared.faults.GraphFault.{GraphFault}
use Rattle.loader.specs.Description.{Description, described}
use Rattle.loader.specs.Parse.{parse}
use Rattle.loader.specs.Refusals.{refusal_of}
use Rattle.refusal.specs.declared.refusal.Refusal.{Refusal}
use Rattle.search.specs.Runs.{Moment}
use Rattle.solve.specs.Solving.{ended, would_settle}
use Rattle.page.specs.Texts.{Page, report_text}
use Rattle.page.specs.Pages.{page_of, Truthful}
use Rattle.planner.specs.declared.options.Options.{Options}
use Rattle.planner.specs.declared.limit.Limit.{Limit}
use Rattle.planner.specs.declared.plan_fault.PlanFault.{PlanFault}
use Rattle.planner.specs.declared.plan_fault.PlanFault.TheVariants.{Refused, Memory}
use Rattle.planner.specs.Limits.{limit_at, EndedBy}

-- the page of the search that ends at a moment, settled if it can be
abbrev pub page_at : Graph → Moment → Page
page_at g m = page_of g (would_settle g m) m

-- what a call answers, and a buffer before and after: this page was written to the front, and what it tells is so;
-- where it ends with the word shortest, no feasible schedule is shorter
abbrev pub Written : Graph → ℕ → Moment → Result (ℕ × Option Limit) Refusal → List ℕ → List ℕ → Type 0
Written g budget m r old new =
    (r ≡ Ok (length (report_text (page_at g m)), limit_at g budget m))
    × (new ≡ report_text (page_at g m) ++ drop (length (report_text (page_at g m))) old)
    × Truthful (would_settle g m) (page_at g m)

-- where the search of a graph ends: opened with as many blank nodes and list slots as the options say, and advanced once
abbrev pub search_end : Graph → Options → Moment
search_end g o = ended g joined_bound (replicate o.nodes no_node) o.nodes o.budget 1

-- the page of the search of a graph, and what it tells is so; and what ended the search, where it is not settled
abbrev pub TextOf : Graph → Options → List ℕ → Option Limit → Type 0
TextOf g o text limit =
    (text ≡ report_text (page_at g (search_end g o)))
    × Truthful (would_settle g (search_end g o)) (page_at g (search_end g o))
    × (limit ≡ limit_at g o.budget (search_end g o))
    × EndedBy g o.budget (search_end g o) limit

-- a plan of a run file: the page of the search of the graph that the file describes
abbrev pub PlanOf : List ℕ → Options → List ℕ → Option Limit → Type 0
PlanOf bytes o text limit = (d : Description) × (parse bytes ≡ Ok d) × TextOf (described d) o text limit

abbrev pub OutOfMemory : PlanFault → Type 0
OutOfMemory (Refused e) = ⊥
OutOfMemory (Memory e) = ⊤

-- why there is none: the file is refused, and this is its refusal, or there is no memory
abbrev pub FaultOf : List ℕ → PlanFault → Type 0
FaultOf bytes (Refused e) = (f : GraphFault) × (parse bytes ≡ Err f) × (e ≡ refusal_of f)
FaultOf bytes (Memory e) = ⊤
