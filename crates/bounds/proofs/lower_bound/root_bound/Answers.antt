use Rattle.std.proofs.Common.{ap, arith}
use Rattle.model.specs.Partial.{Partial}
use Rattle.model.specs.Reachable.{Empty}
use Rattle.model.specs.Reachable.Reachable.{none}
use Rattle.model.proofs.Completions.{empty-completed}
use Rattle.loader.specs.Meaning.{the_graph}
use Rattle.loader.proofs.Laws.{the_lawful}
use Rattle.partial.specs.Meaning.{the_partial}
use Rattle.bounds.proofs.lower_bound.root_bound.Goals as goal

pub returns-clause-lower : goal.returns-clause-lower
returns-clause-lower g c =
    let G = the_graph c.args.g.now in
    let s = the_partial c.empty.result in
    let empty : Empty G s = λ t h. ap (λ (q : Partial). q.placed t) c.empty.ensures in
    λ p M. omega (arith, c.bound.ensures, g.met.B.LowerBound.lower c.args.rule.now G s p (the_lawful c.args.g.now) (none empty) (λ t h. ap (λ (q : Partial). q.placed t) c.empty.ensures) (empty-completed G s p empty M))
