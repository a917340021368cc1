use Rattle.std.specs.Prelude.{ℕ, zero, suc, ◌+◌, List, [], ◌∷◌, ◌++◌}
use Rattle.model.specs.Graph.{Graph}
use Rattle.model.specs.Schedule.{Schedule}
use Rattle.astar.specs.declared.tally.Tally.{Tally}
use Rattle.page.specs.declared.word.Word.{Word}
use Rattle.page.specs.declared.word.Word.TheVariants.{Tasks, Machines, Task, Machine, Start, Finish, Length, Floor, Taken, Made, Put, Twins, Cut, Complete, Waiting}
use Rattle.page.specs.declared.closing.Closing.{Closing}
use Rattle.page.specs.Words.{word_text, closing_word}
use Rattle.page.specs.Lines.{line_text}

-- what a page tells
pub record Page : Type 0 where
  pub graph : Graph
  pub schedule : Schedule
  pub length : ℕ
  pub floor : ℕ
  pub tally : Tally
  pub closing : Closing

-- the words of each line, with the number after each
abbrev pub head_fields : Page → List (Word × ℕ)
head_fields p = (Tasks, p.graph.tasks) ∷ (Machines, p.graph.machines) ∷ []

abbrev pub task_fields : Page → ℕ → List (Word × ℕ)
task_fields p t =
    (Task, t)
    ∷ (Machine, p.schedule.machine t)
    ∷ (Start, p.schedule.start t)
    ∷ (Finish, p.schedule.start t + p.graph.work t)
    ∷ []

abbrev pub length_fields : Page → List (Word × ℕ)
length_fields p = (Length, p.length) ∷ (Floor, p.floor) ∷ []

abbrev pub tally_fields : Tally → List (Word × ℕ)
tally_fields c =
    (Taken, c.expanded)
    ∷ (Made, c.generated)
    ∷ (Put, c.stored)
    ∷ (Twins, c.duplicates)
    ∷ (Cut, c.pruned)
    ∷ (Complete, c.complete)
    ∷ (Waiting, c.waiting)
    ∷ []

-- the lines of the tasks below n
abbrev pub task_lines : Page → ℕ → List ℕ
task_lines p zero = []
task_lines p (suc n) = task_lines p n ++ line_text (task_fields p n)

-- the text of a page: the numbers of tasks and machines, a line for each task, the length, what the search has done,
-- and a last line of one word
unfoldable pub report_text : Page → List ℕ
report_text p =
    line_text (head_fields p)
    ++ (task_lines p p.graph.tasks
    ++ (line_text (length_fields p)
    ++ (line_text (tally_fields p.tally)
    ++ (word_text (closing_word p.closing) ++ 10 ∷ []))))
