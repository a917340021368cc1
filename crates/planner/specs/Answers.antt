use Rattle.std.specs.Prelude.{◌≡◌, ℕ, List, codes, ◌++◌, Option, IfSome, Err, ⊤}
use Rattle.loader.specs.declared.faults.GraphFault.{GraphFault}
use Rattle.loader.specs.Parse.{parse}
use Rattle.loader.specs.Refusals.{refusal_of}
use Rattle.refusal.specs.Wording.{wording}
use Rattle.planner.specs.declared.options.Options.{Options}
use Rattle.planner.specs.declared.request.Request.{Request}
use Rattle.planner.specs.declared.request.Request.TheVariants.{Search, Help as AskedHelp, Bad}
use Rattle.planner.specs.declared.answer.Answer.{Answer}
use Rattle.planner.specs.declared.answer.Answer.TheVariants.{Page, Refused, Help, BadCall, NoMemory, Unreadable}
use Rattle.planner.specs.Input.{IsFront}
use Rattle.planner.specs.Requests.{Asks}
use Rattle.planner.specs.Planning.{PlanOf}
use Rattle.planner.specs.Texts.{help_of, bad_call, limit_text, no_memory, unreadable}
use Rattle.planner.specs.Explaining.{explained}

-- what a search by these options comes to, with these bytes on the input, where they are known: the plan of the file;
-- or its refusal, by a front of it; or there is no memory, or the input could not be read
abbrev pub Searched : Options → Option (List ℕ) → Answer → Type 0
Searched o left (Page p q) = (q ≡ o) × IfSome left (λ bytes. PlanOf bytes o p.page.items p.limit)
Searched o left (Refused r front) =
    IsFront left front.items
    × IfSome left (λ bytes. (f : GraphFault) × (parse bytes ≡ Err f) × (r ≡ refusal_of f))
Searched o left Help = ⊥
Searched o left (BadCall f) = ⊥
Searched o left (NoMemory n) = n ≡ o.nodes
Searched o left Unreadable = ⊤

-- the answer to what is asked for
abbrev pub Answered : Request → Option (List ℕ) → Answer → Type 0
Answered (Search o) left a = Searched o left a
Answered AskedHelp left a = a ≡ Help
Answered (Bad f) left a = a ≡ BadCall f

-- the answer to the words of a call
abbrev pub Answers : List (List ℕ) → Option (List ℕ) → Answer → Type 0
Answers ws left a = (r : Request) × Asks ws r × Answered r left a

-- of an answer that needs no input this is so
abbrev pub Unread : Answer → Type 0 → Type 0
Unread (Page p o) P = ⊤
Unread (Refused r front) P = ⊤
Unread Help P = P
Unread (BadCall f) P = P
Unread (NoMemory n) P = ⊤
Unread Unreadable P = ⊤

-- what is written to the output, by the name that the program was called by
abbrev pub output_of : List ℕ → Answer → List ℕ
output_of name (Page p o) = p.page.items
output_of name (Refused r front) = wording r ++ codes "\n"
output_of name Help = help_of name
output_of name (BadCall f) = codes ""
output_of name (NoMemory n) = codes ""
output_of name Unreadable = codes ""

-- what is written to the error stream
abbrev pub message_of : List (List ℕ) → Answer → List ℕ
message_of ws (Page p o) = limit_text o p.limit
message_of ws (Refused r front) = explained front.items r
message_of ws Help = codes ""
message_of ws (BadCall f) = bad_call ws f
message_of ws (NoMemory n) = no_memory n
message_of ws Unreadable = unreadable

-- the status of the process
abbrev pub status_of : Answer → ℕ
status_of (Page p o) = 0
status_of (Refused r front) = 1
status_of Help = 0
status_of (BadCall f) = 1
status_of (NoMemory n) = 1
status_of Unreadable = 1
