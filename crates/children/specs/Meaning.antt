use Rattle.std.specs.Prelude.{ℕ, List}
use Rattle.children.specs.declared.choices.Choices.{Choices}
use Rattle.children.specs.Choices.{pairs_of}

-- the pairs of task and machine that a value means, in order
abbrev pub the_choices : Choices → List (ℕ × ℕ)
the_choices c = pairs_of c.list
