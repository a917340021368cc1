use Rattle.std.specs.Prelude.{◌≡◌, ◌==◌, ◌||◌, if◌then◌else◌, ℕ, true, false, List, [], ◌∷◌, ◌++◌, codes, Some, None, Ok, Err, Result, replicate}
use Rattle.model.specs.Graph.{Graph, level}
use Rattle.model.specs.Partial.{Partial, nothing, whole}
use Rattle.model.specs.Bounds.{path_bound, load_bound, arrival_bound, joined_bound}
use Rattle.model.specs.Nodes.{no_node, node_at}
use Rattle.model.specs.Schedule.{makespan}
use Rattle.refusal.specs.declared.layer.Layer.{Layer}
use Rattle.refusal.specs.declared.refusal.Refusal.{Refusal}
use Rattle.refusal.specs.declared.layer.Layer.TheVariants.{Bytes as BytesLayer, Records as RecordsLayer, Graph as GraphLayer, Search as SearchLayer, Check as CheckLayer, Page as PageLayer}
use Rattle.loader.specs.declared.transfer.Transfer.{Transfer}
use Rattle.loader.specs.Description.{Description, described}
use Rattle.loader.specs.Meaning.{smallest}
use Rattle.loader.specs.Chaining.{lifted}
use Rattle.loader.specs.Parse.{parse}
use Rattle.loader.specs.declared.faults.RecordsFault.TheVariants as record_faults
use Rattle.loader.specs.declared.faults.GraphFault.TheVariants.{Records, Range, TooMany, Twice, Cycle}
use Rattle.loader.specs.Refusals.{refusal_of}
use Rattle.partial.specs.declared.placement.Placement.{Placement}
use Rattle.schedule.specs.Check.{checked}
use Rattle.schedule.specs.ListSchedule.{listed}
use Rattle.schedule.specs.Refusals.{check_refusal}
use Rattle.astar.specs.declared.tally.Tally.{Tally}
use Rattle.astar.specs.declared.outcome.Outcome.{Outcome}
use Rattle.astar.specs.declared.outcome.Outcome.TheVariants.{Met, Paused, Full}
use Rattle.astar.specs.States.{SearchState, best_length, best_schedule}
use Rattle.astar.specs.Opening.{sizes_of, opened}
use Rattle.astar.specs.Advance.{advanced}
use Rattle.astar.specs.Laws.{floor}
use Rattle.schedule.specs.declared.fault.CheckFault.TheVariants as check_faults
use Rattle.search.specs.declared.fault.SearchFault.TheVariants as search_faults
use Rattle.search.specs.declared.fault.PageFault.TheVariants as page_faults
use Rattle.search.specs.Refusals.{search_refusal, page_refusal}
use Rattle.refusal.specs.Wording.{wording}
use Rattle.search.specs.Calls.{open_fault, settle_fault, best_fault}
use Rattle.search.specs.Runs.{Moment, at_open}
use Rattle.solve.specs.Solving.{ended}
use Rattle.page.specs.Pages.{text_of, page_fault}

abbrev transfer : ℕ → ℕ → ℕ → Transfer
transfer a b c = record { from = a; to = b; cost = c }

abbrev row : ℕ → ℕ → Placement
row m s = record { machine = m; start = s }

abbrev refused : ℕ → ℕ → Layer → Refusal
refused number place layer = record { number = number; place = place; layer = layer }

-- what the check tells of rows, with a fault as its refusal
abbrev judged : Graph → List Placement → Result ℕ Refusal
judged g rows = lifted check_refusal (checked g rows)

-- four tasks on two machines
abbrev pub example : Description
example = record {
  tasks = 4;
  machines = 2;
  works = 2 ∷ 3 ∷ 3 ∷ 2 ∷ [];
  transfers = transfer 0 1 1 ∷ transfer 0 2 1 ∷ transfer 1 3 2 ∷ transfer 2 3 1 ∷ [];
}

abbrev pub example_file : List ℕ
example_file =
    4 ∷ 0 ∷ 1 ∷ 0 ∷ 4 ∷ 0 ∷ 2 ∷ 0 ∷
    2 ∷ 0 ∷ 2 ∷ 0 ∷ 2 ∷ 0 ∷
    2 ∷ 0 ∷ 2 ∷ 0 ∷ 3 ∷ 0 ∷
    2 ∷ 0 ∷ 2 ∷ 0 ∷ 3 ∷ 0 ∷
    2 ∷ 0 ∷ 2 ∷ 0 ∷ 2 ∷ 0 ∷
    6 ∷ 0 ∷ 3 ∷ 0 ∷ 0 ∷ 0 ∷ 1 ∷ 0 ∷ 1 ∷ 0 ∷
    6 ∷ 0 ∷ 3 ∷ 0 ∷ 0 ∷ 0 ∷ 2 ∷ 0 ∷ 1 ∷ 0 ∷
    6 ∷ 0 ∷ 3 ∷ 0 ∷ 1 ∷ 0 ∷ 3 ∷ 0 ∷ 2 ∷ 0 ∷
    6 ∷ 0 ∷ 3 ∷ 0 ∷ 2 ∷ 0 ∷ 3 ∷ 0 ∷ 1 ∷ 0 ∷
    0 ∷ 0 ∷ 4 ∷ 0 ∷ []

-- two tasks of work 1, each feeding the other
abbrev pub there_and_back : List ℕ
there_and_back =
    4 ∷ 0 ∷ 1 ∷ 0 ∷ 2 ∷ 0 ∷ 1 ∷ 0 ∷
    2 ∷ 0 ∷ 2 ∷ 0 ∷ 1 ∷ 0 ∷
    2 ∷ 0 ∷ 2 ∷ 0 ∷ 1 ∷ 0 ∷
    6 ∷ 0 ∷ 3 ∷ 0 ∷ 0 ∷ 0 ∷ 1 ∷ 0 ∷ 0 ∷ 0 ∷
    6 ∷ 0 ∷ 3 ∷ 0 ∷ 1 ∷ 0 ∷ 0 ∷ 0 ∷ 0 ∷ 0 ∷
    0 ∷ 0 ∷ 4 ∷ 0 ∷ []

-- one task of work 5 on two machines
abbrev pub single : Description
single = record { tasks = 1; machines = 2; works = 5 ∷ []; transfers = [] }

abbrev pub single_file : List ℕ
single_file = 4 ∷ 0 ∷ 1 ∷ 0 ∷ 1 ∷ 0 ∷ 2 ∷ 0 ∷ 2 ∷ 0 ∷ 2 ∷ 0 ∷ 5 ∷ 0 ∷ 0 ∷ 0 ∷ 4 ∷ 0 ∷ []

-- two tasks of work 2 without transfers, on two machines
abbrev pub pair : Description
pair = record { tasks = 2; machines = 2; works = 2 ∷ 2 ∷ []; transfers = [] }

abbrev pub pair_file : List ℕ
pair_file =
    4 ∷ 0 ∷ 1 ∷ 0 ∷ 2 ∷ 0 ∷ 2 ∷ 0 ∷
    2 ∷ 0 ∷ 2 ∷ 0 ∷ 2 ∷ 0 ∷
    2 ∷ 0 ∷ 2 ∷ 0 ∷ 2 ∷ 0 ∷
    0 ∷ 0 ∷ 4 ∷ 0 ∷ []

-- one task on one machine, of work 1,000 and of work 1,001
abbrev pub work_of_1000 : List ℕ
work_of_1000 = 4 ∷ 0 ∷ 1 ∷ 0 ∷ 1 ∷ 0 ∷ 1 ∷ 0 ∷ 2 ∷ 0 ∷ 2 ∷ 0 ∷ 232 ∷ 3 ∷ 0 ∷ 0 ∷ 4 ∷ 0 ∷ []

abbrev pub work_of_1001 : List ℕ
work_of_1001 = 4 ∷ 0 ∷ 1 ∷ 0 ∷ 1 ∷ 0 ∷ 1 ∷ 0 ∷ 2 ∷ 0 ∷ 2 ∷ 0 ∷ 233 ∷ 3 ∷ 0 ∷ 0 ∷ 4 ∷ 0 ∷ []

-- what a new graph is, before a file is read
abbrev pub NewGraph : Type 0
NewGraph = smallest ≡ record { tasks = 1; machines = 1; works = 1 ∷ []; transfers = [] }

-- what files tell
abbrev pub FilesRead : Type 0
FilesRead =
    (parse example_file ≡ Ok example)
    × (parse single_file ≡ Ok single)
    × (parse pair_file ≡ Ok pair)
    × (parse work_of_1000
    ≡ Ok (record { tasks = 1; machines = 1; works = 1000 ∷ []; transfers = [] }))

abbrev pub Levels : Type 0
Levels =
    (level (described example) 0 ≡ 7)
    × (level (described example) 1 ≡ 5)
    × (level (described example) 2 ≡ 5)
    × (level (described example) 3 ≡ 2)

abbrev finished : Partial
finished = listed (described example) 4

abbrev pub ListSchedule : Type 0
ListSchedule =
    ((finished.machine 0 ≡ 0) × (finished.machine 1 ≡ 0)
    × (finished.machine 2 ≡ 1) × (finished.machine 3 ≡ 0))
    × ((finished.start 0 ≡ 0) × (finished.start 1 ≡ 2)
    × (finished.start 2 ≡ 3) × (finished.start 3 ≡ 7))
    × (makespan (described example) (whole finished) ≡ 9)

-- task 0 alone is placed, on machine 0 from 1 on
abbrev late : Partial
late = record { placed = λ t. t == 0; machine = λ _. 0; start = λ _. 1 }

-- tasks 0 and 1 on machine 0, which idles for 2 units of time between them
abbrev gap : Partial
gap = record {
  placed = λ t. t == 0 || t == 1;
  machine = λ _. 0;
  start = λ t. if t == 1 then 4 else 0;
}

-- before any task is placed; then with 11 units of work and idle time on two machines, and with 12
abbrev pub Bounds : Type 0
Bounds =
    ((path_bound (described example) nothing ≡ 7)
    × (load_bound (described example) nothing ≡ 5)
    × (arrival_bound (described example) nothing ≡ 7))
    × ((path_bound (described example) late ≡ 8)
    × (load_bound (described example) late ≡ 6)
    × (arrival_bound (described example) late ≡ 8))
    × ((path_bound (described example) gap ≡ 9)
    × (load_bound (described example) gap ≡ 6)
    × (arrival_bound (described example) gap ≡ 7))

abbrev pub Checks : Type 0
Checks =
    (judged (described example) (row 0 0 ∷ row 1 3 ∷ row 0 2 ∷ row 1 6 ∷ []) ≡ Ok 8)
    × (judged (described example) (row 0 0 ∷ row 1 3 ∷ row 0 2 ∷ row 1 5 ∷ [])
    ≡ Err (refused 14 3 CheckLayer))

abbrev pub Overlaps : Type 0
Overlaps =
    (judged (described pair) (row 0 0 ∷ row 0 2 ∷ []) ≡ Ok 4)
    × (judged (described pair) (row 0 0 ∷ row 0 1 ∷ []) ≡ Err (refused 15 0 CheckLayer))

abbrev pub Refused : Type 0
Refused =
    (lifted refusal_of (parse []) ≡ Err (refused 1 0 BytesLayer))
    × (lifted refusal_of (parse work_of_1001) ≡ Err (refused 4 8 GraphLayer))
    × (lifted refusal_of (parse there_and_back) ≡ Err (refused 8 8 GraphLayer))

-- a search of a graph with n blank nodes and the three rules joined, opened and advanced once with budget k
abbrev searched : Description → ℕ → ℕ → SearchState × Outcome
searched d n k =
    let ns = replicate n no_node in
    advanced (described d) joined_bound (sizes_of (described d) ns) n k
    (opened (described d) joined_bound (listed (described d) d.tasks) ns)

-- the one schedule is as long as its bound; the example with two nodes is paused by budget 0, and has no room for a child
abbrev pub Searches : Type 0
Searches =
    (((searched single 256 10000).1 ≡ Met)
    × ((searched single 256 10000).0.tally.expanded ≡ 0)
    × (best_length (searched single 256 10000).0 ≡ 5))
    × ((searched example 2 0).1 ≡ Paused)
    × (((searched example 2 1).1 ≡ Full)
    × ((searched example 2 1).0.tally.expanded ≡ 0)
    × (floor (searched example 2 1).0 ≡ 7)
    × (best_length (searched example 2 1).0 ≡ 9))

-- with as many nodes as the program gives, the example is searched to its end
abbrev pub ExampleSearched : Type 0
ExampleSearched =
    ((searched example 256 10000).1 ≡ Met)
    × ((searched example 256 10000).0.tally
    ≡ record {
      expanded = 5;
      generated = 11;
      stored = 6;
      duplicates = 0;
      pruned = 3;
      complete = 2;
      waiting = 2;
    })
    × (floor (searched example 256 10000).0 ≡ 8)
    × (best_length (searched example 256 10000).0 ≡ 8)

-- calls of advance, each with budget 2, until the example is searched to its end
abbrev expanded_in : ℕ → ℕ
expanded_in n = (ended (described example) joined_bound (replicate 256 no_node) 256 2 n).state.tally.expanded

abbrev pub Rounds : Type 0
Rounds =
    (expanded_in 0 ≡ 0) × (expanded_in 1 ≡ 2) × (expanded_in 2 ≡ 4) × (expanded_in 3 ≡ 5)
    × (expanded_in 4 ≡ 5)

-- each refusal by number, place and layer
abbrev pub Numbers : Type 0
Numbers =
    ((refusal_of (Records (record_faults.Bytes (record { place = 20 }))) ≡ refused 1 20 BytesLayer)
    × (refusal_of (Records (record_faults.Kind 21)) ≡ refused 2 21 RecordsLayer)
    × (refusal_of (Records (record_faults.Length 22)) ≡ refused 3 22 RecordsLayer)
    × (refusal_of (Range 23) ≡ refused 4 23 GraphLayer)
    × (refusal_of (TooMany 24) ≡ refused 5 24 GraphLayer)
    × (refusal_of (Twice 25) ≡ refused 6 25 GraphLayer)
    × (refusal_of (Records (record_faults.Tail 26)) ≡ refused 7 26 RecordsLayer)
    × (refusal_of (Cycle 27) ≡ refused 8 27 GraphLayer))
    × ((search_refusal search_faults.Table ≡ refused 9 0 SearchLayer)
    × (search_refusal search_faults.List ≡ refused 10 0 SearchLayer)
    × (search_refusal search_faults.Foreign ≡ refused 11 0 SearchLayer)
    × (search_refusal search_faults.Unsettled ≡ refused 12 0 SearchLayer))
    × ((check_refusal (check_faults.Rows 3) ≡ refused 13 3 CheckLayer)
    × (check_refusal (check_faults.Early 2) ≡ refused 14 2 CheckLayer)
    × (check_refusal (check_faults.Overlap 1) ≡ refused 15 1 CheckLayer))
    × ((page_refusal (page_faults.Search search_faults.Table) ≡ refused 9 0 SearchLayer)
    × (page_refusal (page_faults.Search search_faults.List) ≡ refused 10 0 SearchLayer)
    × (page_refusal (page_faults.Search search_faults.Foreign) ≡ refused 11 0 SearchLayer)
    × (page_refusal (page_faults.Search search_faults.Unsettled) ≡ refused 12 0 SearchLayer)
    × (page_refusal page_faults.Short ≡ refused 16 0 PageLayer))

-- and as they are worded, one of each layer
abbrev pub Wordings : Type 0
Wordings =
    (wording (refused 1 0 BytesLayer) ≡ codes "refused 1 at 0 in bytes")
    × (wording (refused 2 14 RecordsLayer) ≡ codes "refused 2 at 14 in records")
    × (wording (refused 8 8 GraphLayer) ≡ codes "refused 8 at 8 in graph")
    × (wording (refused 11 0 SearchLayer) ≡ codes "refused 11 at 0 in search")
    × (wording (refused 14 2 CheckLayer) ≡ codes "refused 14 at 2 in check")
    × (wording (refused 16 0 PageLayer) ≡ codes "refused 16 at 0 in page")

-- where two tests apply the first one counts: the example just opened with two nodes has floor 7 and best length 9, and a
-- list of one place is not its own
abbrev begun : Moment
begun = at_open (described example) joined_bound (replicate 2 no_node) 2

abbrev pub FirstTests : Type 0
FirstTests =
    (open_fault (replicate 1 no_node) begun.state.bag 0 ≡ Some search_faults.Table)
    × (open_fault (replicate 2 no_node) begun.state.bag 2 ≡ Some search_faults.List)
    × (open_fault (replicate 2 no_node) [] 1 ≡ Some search_faults.List)
    × (open_fault (replicate 2 no_node) [] 2 ≡ None)
    × (settle_fault (described example) begun.sizes begun.state 1 ≡ Some search_faults.Foreign)
    × (settle_fault (described example) begun.sizes begun.state 2 ≡ Some search_faults.Unsettled)
    × (best_fault (described example) begun.sizes begun.state 1 3
    ≡ Some (page_faults.Search search_faults.Foreign))
    × (best_fault (described example) begun.sizes begun.state 2 3 ≡ Some page_faults.Short)
    × (best_fault (described example) begun.sizes begun.state 2 4 ≡ None)
    × (page_fault (described example) false (record begun { limit = 1 }) 0
    ≡ Some (page_faults.Search search_faults.Foreign))
    × (page_fault (described example) false begun 0 ≡ Some page_faults.Short)

-- the page of the example, searched to its end and settled
abbrev example_end : Moment
example_end = record {
  sizes = sizes_of (described example) (replicate 256 no_node);
  state = (searched example 256 10000).0;
  limit = 256;
}

abbrev line : List ℕ → List ℕ
line text = text ++ 10 ∷ []

abbrev pub ExamplePage : Type 0
ExamplePage = text_of (described example) true example_end
    ≡ line (codes "tasks 4 machines 2")
    ++ (line (codes "task 0 machine 0 start 0 finish 2")
    ++ (line (codes "task 1 machine 1 start 3 finish 6")
    ++ (line (codes "task 2 machine 0 start 2 finish 5")
    ++ (line (codes "task 3 machine 1 start 6 finish 8")
    ++ (line (codes "length 8 floor 8")
    ++ (line (codes "taken 5 made 11 put 6 twins 0 cut 3 complete 2 waiting 2")
    ++ line (codes "shortest")))))))

-- the page of a search that goes on, of which no two numbers are alike; no state of a run, since only the text matters
abbrev going_on : Moment
going_on = record {
  sizes = sizes_of (described single) (replicate 20 no_node);
  state = record {
    tally = record {
      expanded = 11;
      generated = 12;
      stored = 13;
      duplicates = 14;
      pruned = 15;
      complete = 16;
      waiting = 17;
    };
    nodes = record {
      partial = record { placed = λ _. true; machine = λ _. 3; start = λ _. 4 };
      bound = 10;
      waiting = false;
    } ∷ [];
    bag = record { bound = 8; node = 7 } ∷ [];
  };
  limit = 20;
}

abbrev pub OpenPage : Type 0
OpenPage = text_of (described single) false going_on
    ≡ line (codes "tasks 1 machines 2")
    ++ (line (codes "task 0 machine 3 start 4 finish 9")
    ++ (line (codes "length 10 floor 8")
    ++ (line (codes "taken 11 made 12 put 13 twins 14 cut 15 complete 16 waiting 17")
    ++ line (codes "open"))))

-- more searches: `three` and `five` meet duplicates, `fork` none
abbrev three : Description
three = record { tasks = 3; machines = 2; works = 2 ∷ 3 ∷ 3 ∷ []; transfers = [] }

abbrev fork : Description
fork = record {
  tasks = 3;
  machines = 3;
  works = 4 ∷ 1 ∷ 1 ∷ [];
  transfers = transfer 0 1 0 ∷ transfer 0 2 2 ∷ [];
}

abbrev five : Description
five = record {
  tasks = 5;
  machines = 3;
  works = 4 ∷ 1 ∷ 4 ∷ 2 ∷ 2 ∷ [];
  transfers = transfer 0 1 2 ∷ transfer 0 2 1 ∷ transfer 0 3 2 ∷ transfer 3 4 0 ∷ [];
}

-- a search with 400 nodes ends with these counts and this length
abbrev Ends : Description → ℕ → Tally → ℕ → Type 0
Ends d k counts length =
    ((searched d 400 k).0.tally ≡ counts)
    × (best_length (searched d 400 k).0 ≡ length)
    × ((searched d 400 k).1 ≡ Met)

abbrev pub WithDuplicates : Type 0
WithDuplicates =
    Ends three 100 (record { expanded = 7; generated = 21; stored = 6; duplicates = 3; pruned = 6; complete = 6; waiting = 0 }) 5
    × Ends fork 100 (record { expanded = 3; generated = 7; stored = 4; duplicates = 0; pruned = 1; complete = 2; waiting = 2 }) 5

-- the list schedule, in which task 0 comes last, is as long as the shortest, so that it stays the best; node 0 does not wait
abbrev pub BestStays : Type 0
BestStays =
    ((best_schedule (searched three 400 100).0).start 0 ≡ 3)
    × ((node_at (searched three 400 100).0.nodes 0).waiting ≡ false)

abbrev pub FiveTasks : Type 0
FiveTasks = Ends five 100 (record { expanded = 13; generated = 56; stored = 17; duplicates = 4; pruned = 29; complete = 6; waiting = 5 }) 9
