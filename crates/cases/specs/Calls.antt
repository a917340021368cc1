use Rattle.std.specs.Prelude.{◌≡◌, ℕ, true, false, List, [], ◌∷◌, ◌++◌, codes, take, Some, None, Vec}
use Rattle.std.specs.declared.alloc.Global.{Global}
use Rattle.refusal.specs.declared.refusal.Refusal.{Refusal}
use Rattle.refusal.specs.Wording.{wording}
use Rattle.refusal.specs.declared.layer.Layer.{Layer}
use Rattle.refusal.specs.declared.layer.Layer.TheVariants.{Bytes, Records, Graph}
use Rattle.planner.specs.declared.setting.Setting.TheVariants.{Nodes, Budget}
use Rattle.planner.specs.declared.limit.Limit.TheVariants as limits
use Rattle.planner.specs.declared.options.Options.{Options}
use Rattle.planner.specs.declared.plan.Plan.{Plan}
use Rattle.planner.specs.declared.request.Request.TheVariants.{Search, Help, Bad}
use Rattle.planner.specs.declared.request.CallFault.TheVariants.{NoOption, NoValue, BadValue}
use Rattle.planner.specs.declared.answer.Answer.{Answer}
use Rattle.planner.specs.declared.answer.Answer.TheVariants as answers
use Rattle.planner.specs.Options.{settings, Takes}
use Rattle.planner.specs.Requests.{Asks}
use Rattle.planner.specs.Limits.{limit_of}
use Rattle.planner.specs.Texts.{usage_of, example_of, bad_call, limit_text, no_words, unwritten}
use Rattle.planner.specs.Explaining.{explained}
use Rattle.planner.specs.Answers.{output_of, message_of, status_of}
use Rattle.cases.specs.Table.{example_file}

abbrev refused : ℕ → ℕ → Layer → Refusal
refused number place layer = record { number = number; place = place; layer = layer }

-- these words ask for a search by these settings
abbrev SearchBy : List (List ℕ) → ℕ × ℕ → Type 0
SearchBy ws x = (o : Options) → settings o ≡ x → Asks ws (Search o)

abbrev name : List ℕ
name = codes "planrun"

-- without options; of the same option the last counts, and a plus and zeros may lead a number; help, once an option is
-- due; and the first word that is neither
abbrev pub Calls : Type 0
Calls =
    SearchBy (name ∷ []) (256, 10000)
    × SearchBy (name ∷ codes "--nodes" ∷ codes "1000" ∷ codes "--budget" ∷ codes "5" ∷ codes "--nodes" ∷ codes "+0004096" ∷ []) (4096, 5)
    × Asks (name ∷ codes "--budget" ∷ codes "5" ∷ codes "--help" ∷ codes "--frob" ∷ []) Help
    × Asks (name ∷ codes "--budget" ∷ codes "5" ∷ codes "--frob" ∷ codes "--help" ∷ []) (Bad (NoOption 3))
    × Asks (name ∷ codes "--nodes" ∷ []) (Bad (NoValue Nodes))
    × Asks (name ∷ codes "--nodes" ∷ codes "1" ∷ []) (Bad (BadValue Nodes 2))

-- the least and the greatest numbers that the options take, and those beside them
abbrev pub Ranges : Type 0
Ranges =
    (Takes Nodes (codes "2") 2 × Takes Nodes (codes "1048576") 1048576
    × Takes Budget (codes "0") 0 × Takes Budget (codes "18446744073709551615") 18446744073709551615)
    × ((n : ℕ) → Takes Nodes (codes "1") n → ⊥) × ((n : ℕ) → Takes Nodes (codes "1048577") n → ⊥)
    × ((n : ℕ) → Takes Budget (codes "18446744073709551616") n → ⊥)

-- how the program is called, by its name
abbrev pub Usages : Type 0
Usages =
    (usage_of name ≡ codes "planrun [--nodes N] [--budget K] < FILE")
    × (usage_of (codes "./plan") ≡ codes "./plan FILE [--nodes N] [--budget K]")
    × (example_of (codes "./plan") ≡ codes "./plan FILE --nodes 65536 --budget 65536")

-- what is said of a word at fault
abbrev pub Faults : Type 0
Faults =
    (bad_call (name ∷ codes "--frob" ∷ []) (NoOption 1)
    ≡ codes "call: '--frob' is no option: --nodes, --budget and --help are\nusage: planrun [--nodes N] [--budget K] < FILE\n")
    × (bad_call (codes "./plan" ∷ codes "--nodes" ∷ []) (NoValue Nodes)
    ≡ codes "call: --nodes has no value: a whole number from 2 to 1048576 is wanted\nusage: ./plan FILE [--nodes N] [--budget K]\n")
    × (bad_call (name ∷ codes "--budget" ∷ codes "x" ∷ []) (BadValue Budget 2)
    ≡ codes "call: --budget 'x' is not a whole number from 0 to 18446744073709551615\nusage: planrun [--nodes N] [--budget K] < FILE\n")

-- what ended a search, and what is said of it
abbrev pub Limits : Type 0
Limits =
    ((limit_of true 5 5 ≡ None) × (limit_of false 5 5 ≡ Some limits.Budget) × (limit_of false 4 5 ≡ Some limits.Nodes))
    × ((o : Options) → settings o ≡ (256, 10000)
    → (limit_text o None ≡ [])
    × (limit_text o (Some limits.Budget) ≡ codes "open: the budget of 10000 is spent; raise --budget\n")
    × (limit_text o (Some limits.Nodes) ≡ codes "open: the 256 nodes do not suffice; raise --nodes\n"))
    × ((o : Options) → settings o ≡ (1048576, 10000)
    → limit_text o (Some limits.Nodes) ≡ codes "open: 1048576 nodes do not suffice, and there can be no more\n")

-- what is said of a refused file, by number and place
abbrev pub Explained : Type 0
Explained =
    ((explained [] (refused 1 0 Bytes) ≡ codes "file: this does not look like a run file, which begins with a record of kind 1 and 8 bytes\n")
    × (explained (take 10 example_file) (refused 1 8 Bytes) ≡ codes "file: it ends before the record at byte 8 is complete\n")
    × (explained (9 ∷ 0 ∷ 1 ∷ 0 ∷ []) (refused 2 0 Records) ≡ codes "file: this does not look like a run file, which begins with a record of kind 1 and 8 bytes\n")
    × (explained (2 ∷ 0 ∷ 1 ∷ 0 ∷ 4 ∷ 0 ∷ []) (refused 3 0 Records) ≡ codes "file: this does not look like a run file, which begins with a record of kind 1 and 8 bytes\n")
    × (explained (take 32 example_file ++ 6 ∷ 0 ∷ 2 ∷ 0 ∷ 1 ∷ 0 ∷ 1 ∷ 0 ∷ 1 ∷ 0 ∷ []) (refused 2 32 Records)
    ≡ codes "file: the record at byte 32 is of kind 2, where a transfer (kind 3) or the end (kind 4) is due\n")
    × (explained (take 26 example_file ++ 0 ∷ 0 ∷ 4 ∷ 0 ∷ []) (refused 2 26 Records)
    ≡ codes "file: the record at byte 26 is of kind 4, where a task (kind 2) is due\n")
    × (explained (take 26 example_file ++ 4 ∷ 0 ∷ 2 ∷ 0 ∷ 1 ∷ 0 ∷ 0 ∷ 0 ∷ []) (refused 3 26 Records)
    ≡ codes "file: the record at byte 26 is of kind 2 with a payload of 4 bytes, where 2 are due\n")
    × (explained (take 32 example_file ++ 2 ∷ 0 ∷ 3 ∷ 0 ∷ 1 ∷ 0 ∷ []) (refused 3 32 Records)
    ≡ codes "file: the record at byte 32 is of kind 3 with a payload of 2 bytes, where 6 are due\n")
    × (explained (take 32 example_file ++ 2 ∷ 0 ∷ 4 ∷ 0 ∷ 1 ∷ 0 ∷ []) (refused 3 32 Records)
    ≡ codes "file: the record at byte 32 is of kind 4 with a payload of 2 bytes, where 0 are due\n"))
    × ((explained (4 ∷ 0 ∷ 1 ∷ 0 ∷ 33 ∷ 0 ∷ 2 ∷ 0 ∷ []) (refused 4 0 Graph)
    ≡ codes "file: there are 33 tasks and 2 machines, where 1 to 32 tasks and 1 to 8 machines are allowed\n")
    × (explained (take 14 example_file ++ 2 ∷ 0 ∷ 2 ∷ 0 ∷ 233 ∷ 3 ∷ []) (refused 4 14 Graph)
    ≡ codes "file: the record at byte 14 gives task 1 the work 1001, where 1 to 1000 is allowed\n")
    × (explained (take 32 example_file ++ 6 ∷ 0 ∷ 3 ∷ 0 ∷ 0 ∷ 0 ∷ 4 ∷ 0 ∷ 5 ∷ 0 ∷ []) (refused 4 32 Graph)
    ≡ codes "file: the record at byte 32 is a transfer from task 0 to task 4 of cost 5, where two different tasks below 4 and a cost of 0 to 1000 are allowed\n"))
    × ((explained example_file (refused 5 32 Graph) ≡ codes "file: the record at byte 32 is a transfer too many: 128 are allowed\n")
    × (explained example_file (refused 6 42 Graph) ≡ codes "file: the record at byte 42 is a second transfer from task 0 to task 2\n")
    × (explained (example_file ++ 0 ∷ []) (refused 7 76 Records) ≡ codes "file: bytes follow the last record, from byte 76 on\n")
    × (explained example_file (refused 8 20 Graph) ≡ codes "file: the transfers lead from task 2 back to itself\n"))

-- which stream each answer goes to, and the status
abbrev pub Streams : Type 0
Streams =
    ((ws : List (List ℕ)) (p : Plan) (o : Options)
    → (output_of name (answers.Page p o) ≡ p.page.items)
    × (message_of ws (answers.Page p o) ≡ limit_text o p.limit) × (status_of (answers.Page p o) ≡ 0))
    × ((ws : List (List ℕ)) (r : Refusal) (front : Vec ℕ Global)
    → (output_of name (answers.Refused r front) ≡ wording r ++ codes "\n")
    × (message_of ws (answers.Refused r front) ≡ explained front.items r) × (status_of (answers.Refused r front) ≡ 1))
    × ((ws : List (List ℕ)) (a : Answer) → a ≡ answers.Help → (message_of ws a ≡ []) × (status_of a ≡ 0))
    × ((ws : List (List ℕ)) (a : Answer) → a ≡ answers.BadCall (NoOption 1)
    → (output_of name a ≡ []) × (message_of ws a ≡ bad_call ws (NoOption 1)) × (status_of a ≡ 1))
    × ((ws : List (List ℕ)) (a : Answer) → a ≡ answers.NoMemory 4096
    → (output_of name a ≡ []) × (status_of a ≡ 1)
    × (message_of ws a ≡ codes "memory: there is not enough for 4096 nodes; lower --nodes\n"))
    × ((ws : List (List ℕ)) (a : Answer) → a ≡ answers.Unreadable
    → (output_of name a ≡ []) × (status_of a ≡ 1)
    × (message_of ws a ≡ codes "input: standard input could not be read\n"))

-- what is said where the words are wanting, and where the output fails
abbrev pub Wants : Type 0
Wants =
    (no_words ≡ codes "memory: there is not enough for the words of the call\n")
    × (unwritten ≡ codes "output: standard output could not be written\n")
