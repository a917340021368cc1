use Rattle.std.specs.Prelude.{ℕ, List, ◌++◌, codes, decimal}
use Rattle.refusal.specs.declared.refusal.Refusal.{Refusal}
use Rattle.refusal.specs.Names.{name_of}

-- a refusal as text, for instance `refused 4 at 8 in graph`
abbrev pub wording : Refusal → List ℕ
wording r =
    codes "refused " ++ (decimal r.number
    ++ (codes " at " ++ (decimal r.place
    ++ (codes " in " ++ name_of r.layer))))
