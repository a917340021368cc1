use Rattle.std.specs.Prelude.{ℕ, List, map}
use Rattle.children.specs.declared.choice.Choice.{Choice}

-- the pair of task and machine that a choice tells
abbrev pub pair_of : Choice → ℕ × ℕ
pair_of c = (c.task, c.machine)

-- the pairs of task and machine that choices tell, in order
abbrev pub pairs_of : List Choice → List (ℕ × ℕ)
pairs_of cs = map pair_of cs
