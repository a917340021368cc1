use Rattle.std.specs.Prelude.{ℕ, if◌then◌else◌, List, ◌++◌, length, codes, nat_lt}
use Rattle.std.specs.Option.{option_map_or}
use Rattle.bag.specs.Bag.{insert, first, rest}
use Rattle.queue.specs.declared.entry.Entry.{Entry}
use Rattle.queue.specs.Entries.{entry_before, entry_text}
use Rattle.listrun.specs.declared.answer.Answer.{Answer}
use Rattle.listrun.specs.declared.answer.Answer.TheVariants.{Added, Full, Shown, Taken, Empty}
use Rattle.listrun.specs.declared.request.Request.{Request}
use Rattle.listrun.specs.declared.request.Request.TheVariants.{Put, Look, Take}

-- what a list with this bag and this capacity answers
abbrev pub answered : Request → List Entry → ℕ → Answer
answered (Put e) b n = if nat_lt (length b) n then Added e else Full e
answered Look b n = option_map_or Shown (first b) Empty
answered Take b n = option_map_or Taken (first b) Empty

-- the bag afterwards
abbrev pub bag_after : Request → List Entry → ℕ → List Entry
bag_after (Put e) b n = if nat_lt (length b) n then insert entry_before e b else b
bag_after Look b n = b
bag_after Take b n = rest b

-- an answer as text: `+3/17` put, `full 3/17` refused, `?3/17` shown, `-3/17` taken, `empty`
abbrev pub wording : Answer → List ℕ
wording (Added e) = codes "+" ++ entry_text e
wording (Full e) = codes "full " ++ entry_text e
wording (Shown e) = codes "?" ++ entry_text e
wording (Taken e) = codes "-" ++ entry_text e
wording Empty = codes "empty"
