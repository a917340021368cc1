use Rattle.std.proofs.Common.{◌≡◌, ℕ, Bool, ◌&&◌, IsTrue, ◌↔◌, sym, subst, arith}
use Rattle.std.specs.List.{Contains}
use Rattle.model.specs.Graph.{Graph, Lawful}
use Rattle.model.specs.Range.{every}
use Rattle.model.specs.Partial.{Partial}
use Rattle.model.specs.NormalForm.{normal_form}
use Rattle.model.specs.Nodes.{is_duplicate}
use Rattle.model.specs.Children.{choices}
use Rattle.model.specs.Soundness.{Orderly, in_range, comes_after, is_orderly}
use Rattle.model.proofs.Choosing.{choices-are, tried-low}
use Rattle.model.proofs.Orderly.{orderly-decides, start-orderly}
use Rattle.loader.specs.declared.graph.TaskGraph.{TaskGraph}
use Rattle.loader.specs.Meaning.{the_graph}
use Rattle.loader.proofs.Laws.{the_lawful}
use Rattle.partial.specs.Meaning.{Appendable}

-- the three parts of the test for an orderly partial schedule
pub orderly_parts : (g : Graph) (s : Partial) (a b d : Bool) → a ≡ every 32 (in_range g s) → b ≡ every g.count (comes_after g s) → d ≡ is_duplicate s (normal_form g s)
    → (a && (b && d)) ≡ is_orderly g s
unfolding is_orderly
orderly_parts g s a b d p q r = λ i. p i && (q i && r i)

-- what a test for an orderly partial schedule decides
pub orderly_law : (g : TaskGraph) (s : Partial) (b : Bool) → b ≡ is_orderly (the_graph g) s → IsTrue b ↔ Orderly (the_graph g) s
orderly_law g s b e = subst (λ r. IsTrue r ↔ Orderly (the_graph g) s) (sym e) (orderly-decides (the_graph g) (the_lawful g) s)

-- each choice of an orderly partial schedule can be appended
pub choice_appendable : (g : Graph) (s : Partial) → Lawful g → Orderly g s → (t m : ℕ) → Contains (choices g s) (t, m) → Appendable g s t m
choice_appendable g s L O t m c =
    let x = (choices-are g s t m O.on).0 c in
    let small = start-orderly g L s O t m x.0 in
    (x.0, tried-low g s m O.on x.1, omega arith)
