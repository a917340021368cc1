use Rattle.std.specs.Prelude.{ℕ, List, codes}
use Rattle.page.specs.declared.word.Word.{Word}
use Rattle.page.specs.declared.word.Word.TheVariants as words
use Rattle.page.specs.declared.closing.Closing.{Closing}
use Rattle.page.specs.declared.closing.Closing.TheVariants as closings

-- the bytes of each word
abbrev pub word_text : Word → List ℕ
word_text words.Tasks = codes "tasks"
word_text words.Machines = codes "machines"
word_text words.Task = codes "task"
word_text words.Machine = codes "machine"
word_text words.Start = codes "start"
word_text words.Finish = codes "finish"
word_text words.Length = codes "length"
word_text words.Floor = codes "floor"
word_text words.Taken = codes "taken"
word_text words.Made = codes "made"
word_text words.Put = codes "put"
word_text words.Twins = codes "twins"
word_text words.Cut = codes "cut"
word_text words.Complete = codes "complete"
word_text words.Waiting = codes "waiting"
word_text words.Open = codes "open"
word_text words.Shortest = codes "shortest"

-- the word that ends a page
abbrev pub closing_word : Closing → Word
closing_word closings.Open = words.Open
closing_word closings.Shortest = words.Shortest
