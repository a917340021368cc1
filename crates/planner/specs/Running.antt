use Rattle.std.specs.Prelude.{◌≡◌, ℕ, true, List, Option, MatchBool}
use Rattle.std.specs.Io.KnownBytes.{Appends}
use Rattle.planner.specs.declared.answer.Answer.{Answer}
use Rattle.planner.specs.declared.run.Ended.{Ended}
use Rattle.planner.specs.Requests.{word_at}
use Rattle.planner.specs.Answers.{output_of, message_of, status_of}
use Rattle.planner.specs.Texts.{unwritten}

-- an answer was written: the output and the error stream before and after, where what they hold is known, and the
-- status; an output that failed is told in place of the message
abbrev pub Delivered : List (List ℕ) → Answer → Option (List ℕ) → Option (List ℕ) → Option (List ℕ) → Option (List ℕ) → Ended → Type 0
Delivered ws a old new was now e =
    MatchBool e.written
    (Appends old new (output_of (word_at ws 0) a)
    × (e.told ≡ true → Appends was now (message_of ws a))
    × (e.status ≡ status_of a))
    ((e.told ≡ true → Appends was now unwritten)
    × (e.status ≡ 1))
