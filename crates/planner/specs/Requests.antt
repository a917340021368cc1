use Rattle.std.specs.Prelude.{◌≡◌, ◌≢◌, ℕ, suc, ◌+◌, ◌<◌, ◌≤◌, List, [], length, slice_index_or, codes, ⊤}
use Rattle.planner.specs.declared.setting.Setting.{Setting}
use Rattle.planner.specs.declared.request.Request.{Request}
use Rattle.planner.specs.declared.request.Request.TheVariants.{Search, Help, Bad}
use Rattle.planner.specs.declared.request.CallFault.{CallFault}
use Rattle.planner.specs.declared.request.CallFault.TheVariants.{NoOption, NoValue, BadValue}
use Rattle.planner.specs.Options.{settings, usual, name_of, set, Takes}

-- the word at a place; the program's name is at place 0
abbrev pub word_at : List (List ℕ) → ℕ → List ℕ
word_at ws i = slice_index_or ws i []

-- the words behind the program's name, up to a place, are options and their values, and turn the usual settings into
-- these, the last of the same option
pub data Sets (ws : List (List ℕ)) : ℕ → ℕ × ℕ → Type 0 where
  none : Sets ws 1 usual
  more : {i : ℕ} {x : ℕ × ℕ} (s : Setting) (n : ℕ) → Sets ws i x → suc i < length ws
      → word_at ws i ≡ name_of s → Takes s (word_at ws (suc i)) n → Sets ws (i + 2) (set s n x)

-- an option is due at a place, and there is a word
abbrev pub Due : List (List ℕ) → ℕ → Type 0
Due ws i = (x : ℕ × ℕ) × Sets ws i x × (i < length ws)

-- a word is at fault: where an option is due it is none; or it is one, and no value follows; or one that it does not take
abbrev pub IsFault : List (List ℕ) → CallFault → Type 0
IsFault ws (NoOption i) =
    Due ws i × (word_at ws i ≢ codes "--help") × ((s : Setting) → word_at ws i ≢ name_of s)
IsFault ws (NoValue s) =
    (i : ℕ) × Due ws i × (word_at ws i ≡ name_of s) × (length ws ≡ suc i)
IsFault ws (BadValue s j) =
    (i : ℕ) × Due ws i × (word_at ws i ≡ name_of s) × (j ≡ suc i) × (j < length ws)
    × ((n : ℕ) → Takes s (word_at ws j) n → ⊥)

-- what the words of a command line ask for
abbrev pub Asks : List (List ℕ) → Request → Type 0
Asks ws (Search o) = (i : ℕ) × Sets ws i (settings o) × (length ws ≤ i)
Asks ws Help = (i : ℕ) × Due ws i × (word_at ws i ≡ codes "--help")
Asks ws (Bad f) = IsFault ws f

-- two requests ask for the same
abbrev pub Alike : Request → Request → Type 0
Alike (Search o) (Search p) = settings o ≡ settings p
Alike Help Help = ⊤
Alike (Bad f) (Bad g) = f ≡ g
Alike r s = ⊥
