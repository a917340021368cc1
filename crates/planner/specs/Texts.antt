use Rattle.std.specs.Prelude.{ℕ, Bool, if◌then◌else◌, ◌==◌, List, ◌++◌, codes, decimal, nat_eq, Some, None, Option}
use Rattle.std.specs.List.{ends_with}
use Rattle.planner.specs.declared.options.Options.{Options}
use Rattle.planner.specs.declared.limit.Limit.{Limit}
use Rattle.planner.specs.declared.limit.Limit.TheVariants.{Budget, Nodes}
use Rattle.planner.specs.declared.request.CallFault.{CallFault}
use Rattle.planner.specs.declared.request.CallFault.TheVariants.{NoOption, NoValue, BadValue}
use Rattle.planner.specs.declared.setting.Setting.{Setting}
use Rattle.planner.specs.Options.{name_of, range_of}
use Rattle.planner.specs.Requests.{word_at}

-- What is written beside pages and refusals.

-- the program is called by the script `plan`, which gives it this name, and takes the file among its words
abbrev pub by_script : List ℕ → Bool
by_script name = ends_with nat_eq name (codes "plan")

-- how the program is called, and an example
abbrev pub usage_of : List ℕ → List ℕ
usage_of name =
    if by_script name
    then codes "./plan FILE [--nodes N] [--budget K]"
    else codes "planrun [--nodes N] [--budget K] < FILE"

abbrev pub example_of : List ℕ → List ℕ
example_of name =
    if by_script name
    then codes "./plan FILE --nodes 65536 --budget 65536"
    else codes "planrun --nodes 65536 --budget 65536 < FILE"

-- the help
abbrev pub help_of : List ℕ → List ℕ
help_of name =
    codes "Decides which machine does which task, and when: searches for the shortest schedule of a run file.\n\n"
    ++ (codes "usage: " ++ (usage_of name
    ++ (codes "\n\n  --nodes N    how many nodes the search has: 2 to 1048576, without it 256\n"
    ++ (codes "  --budget K   how many nodes it may expand: 0 to 18446744073709551615, without it 10000\n"
    ++ (codes "  --help       prints this\n\n"
    ++ (codes "Of the same option the last counts; a plus and zeros may lead a number.\n"
    ++ (codes "The program prints the best schedule, its length, and a floor that no schedule can go below. The last line is\n"
    ++ (codes "shortest where no schedule is shorter, and else open; then the error stream tells why.\n"
    ++ (codes "The status is 0 after a page and this help, and else 1: where the file is refused, a word of the call is at fault,\n"
    ++ (codes "there is not enough memory, or standard input or output fails.\n\n"
    ++ (codes "example: " ++ (example_of name ++ codes "\n"))))))))))))

-- which word of a call is at fault, what is allowed there, and how a program of this name is called
abbrev pub no_option : List ℕ → List ℕ → List ℕ
no_option name word =
    codes "call: '" ++ (word ++ (codes "' is no option: --nodes, --budget and --help are\nusage: " ++ (usage_of name ++ codes "\n")))

abbrev pub no_value : List ℕ → Setting → List ℕ
no_value name s =
    codes "call: " ++ (name_of s ++ (codes " has no value: a whole number from "
    ++ (range_of s ++ (codes " is wanted\nusage: " ++ (usage_of name ++ codes "\n")))))

abbrev pub bad_value : List ℕ → Setting → List ℕ → List ℕ
bad_value name s value =
    codes "call: " ++ (name_of s ++ (codes " '" ++ (value ++ (codes "' is not a whole number from "
    ++ (range_of s ++ (codes "\nusage: " ++ (usage_of name ++ codes "\n")))))))

abbrev pub bad_call : List (List ℕ) → CallFault → List ℕ
bad_call ws (NoOption i) = no_option (word_at ws 0) (word_at ws i)
bad_call ws (NoValue s) = no_value (word_at ws 0) s
bad_call ws (BadValue s i) = bad_value (word_at ws 0) s (word_at ws i)

-- why a page ends with the word open, and what to do
abbrev pub limit_text : Options → Option Limit → List ℕ
limit_text o None = codes ""
limit_text o (Some Budget) =
    codes "open: the budget of " ++ (decimal o.budget ++ codes " is spent; raise --budget\n")
limit_text o (Some Nodes) =
    if o.nodes == 1048576
    then codes "open: 1048576 nodes do not suffice, and there can be no more\n"
    else codes "open: the " ++ (decimal o.nodes ++ codes " nodes do not suffice; raise --nodes\n")

-- there is not enough memory for a search with so many nodes
abbrev pub no_memory : ℕ → List ℕ
no_memory n = codes "memory: there is not enough for " ++ (decimal n ++ codes " nodes; lower --nodes\n")

-- there is not enough for the words of the call; and streams that fail
abbrev pub no_words : List ℕ
no_words = codes "memory: there is not enough for the words of the call\n"

abbrev pub unreadable : List ℕ
unreadable = codes "input: standard input could not be read\n"

abbrev pub unwritten : List ℕ
unwritten = codes "output: standard output could not be written\n"
