use Rattle.std.proofs.Common.{◌≡◌, rules, tests, subst, sym}
use Rattle.std.specs.Prelude.{IsTrue, ◌↔◌}
use Rattle.model.specs.Partial.{Complete}
use Rattle.model.specs.Soundness.{is_complete}
use Rattle.model.proofs.Chains.{every-below}
use Rattle.model.proofs.Orderly.{complete-decides}
use Rattle.loader.specs.Meaning.{the_graph}
use Rattle.partial.specs.Meaning.{the_partial}
use Rattle.children.proofs.complete.is_complete.Goals as goal

pub returns : goal.returns
unfolding is_complete
returns c =
    let g = the_graph c.args.g.now in
    let s = the_partial c.args.q.now in
    let e : c.all.result ≡ is_complete g s = every-below g.tasks _ s.placed _ _ _ c.tasks.ensures.is c.all.ensures.ran (λ x b q k. search (rules, tests)) in
    record { is = e; law = subst (λ b. IsTrue b ↔ Complete g s) (sym e) (complete-decides g s) }
