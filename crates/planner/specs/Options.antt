use Rattle.std.specs.Prelude.{◌≡◌, ℕ, ◌<◌, ◌≤◌, ◌^◌, List, codes, ⊤}
use Rattle.std.specs.Str.Parse.{IsNumeral, digits_value, without_leading_plus}
use Rattle.planner.specs.declared.setting.Setting.{Setting}
use Rattle.planner.specs.declared.setting.Setting.TheVariants.{Nodes, Budget}
use Rattle.planner.specs.declared.options.Options.{Options}

-- how many nodes, and the budget
abbrev pub settings : Options → ℕ × ℕ
settings o = (o.nodes, o.budget)

-- without options
abbrev pub usual : ℕ × ℕ
usual = (256, 10000)

-- how an option is written
abbrev pub name_of : Setting → List ℕ
name_of Nodes = codes "--nodes"
name_of Budget = codes "--budget"

-- the numbers that it takes, as text
abbrev pub range_of : Setting → List ℕ
range_of Nodes = codes "2 to 1048576"
range_of Budget = codes "0 to 18446744073709551615"

-- a text is the decimal number n, of at most 64 bits; a plus may lead, and zeros
abbrev pub Reads : List ℕ → ℕ → Type 0
Reads text n =
    IsNumeral 10 (without_leading_plus text)
    × (digits_value 10 (without_leading_plus text) ≡ n)
    × (n < 2 ^ 64)

-- an option takes the number
abbrev pub Allows : Setting → ℕ → Type 0
Allows Nodes n = (2 ≤ n) × (n ≤ 1048576)
Allows Budget n = ⊤

-- an option takes a text as the number n
abbrev pub Takes : Setting → List ℕ → ℕ → Type 0
Takes s text n = Reads text n × Allows s n

-- one setting replaced
abbrev pub set : Setting → ℕ → ℕ × ℕ → ℕ × ℕ
set Nodes n x = (n, x.1)
set Budget n x = (x.0, n)
