use Rattle.std.specs.Prelude.{ℕ, List, [], ◌∷◌, ◌++◌, codes, decimal}
use Rattle.std.specs.List.{join_by}
use Rattle.page.specs.declared.word.Word.{Word}
use Rattle.page.specs.Words.{word_text}

-- a word and the number after it
abbrev pub field_text : Word × ℕ → List ℕ
field_text f = word_text f.0 ++ (codes " " ++ decimal f.1)

-- a line of them, with a space between each two, ended by byte 10
abbrev pub line_text : List (Word × ℕ) → List ℕ
line_text fs = join_by field_text (codes " ") fs ++ 10 ∷ []
