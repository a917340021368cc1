use Rattle.std.proofs.Common.{◌≡◌}
use Rattle.std.specs.List.{flat_map}
use Rattle.model.specs.Partial.{is_free}
use Rattle.model.specs.Children.{passing}
use Rattle.model.proofs.Choosing.{tries}
use Rattle.loader.specs.Meaning.{the_graph}
use Rattle.partial.specs.Meaning.{the_partial}
use Rattle.children.specs.Choices.{pairs_of}
use Rattle.children.proofs.choices.Choices.of.Given as goal

abbrev pub invariant-loop-t : goal.invariant-loop-t
invariant-loop-t l = pairs_of l.list ≡ flat_map (tries (the_graph l.g) (the_partial l.q)) (passing l.t (is_free (the_graph l.g) (the_partial l.q)))
