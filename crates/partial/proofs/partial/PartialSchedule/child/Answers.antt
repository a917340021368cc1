use Rattle.loader.specs.Meaning.{the_graph}
use Rattle.model.specs.NormalForm.{normal_form}
use Rattle.std.proofs.Common.{ap, ◌∙◌}
use Rattle.partial.specs.Meaning.{the_partial}
use Rattle.partial.proofs.Deciding.{child_reachable}
use Rattle.partial.proofs.partial.PartialSchedule.child.Goals as goal

pub returns-clause-reachable : goal.returns-clause-reachable
returns-clause-reachable c =
    let g = c.args.g.now in
    let A = c.in_ok-appended.ensures.is in
    child_reachable g (the_partial c.args.self.now) (the_partial c.normal_form.result) c.args.t c.args.m A.0 (c.normal_form.ensures.is ∙ ap (normal_form (the_graph g)) A.1)
