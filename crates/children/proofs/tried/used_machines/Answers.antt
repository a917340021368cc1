use Rattle.std.proofs.Common.{[], ◌∷◌, ◌++◌, sym, ap, ◌∙◌, arith, lit<}
use Rattle.model.specs.Children.{is_used}
use Rattle.model.proofs.Passing.{passing-with, passing-without, length-passing}
use Rattle.loader.specs.Meaning.{the_graph}
use Rattle.loader.proofs.Laws.{the_lawful}
use Rattle.partial.specs.Meaning.{the_partial}
use Rattle.children.proofs.tried.used_machines.Goals as goal
use Rattle.children.proofs.tried.used_machines.Goals.{then-is_used, else-is_used}

pub push-requires : goal.push-requires
push-requires c =
    let used = is_used (the_graph c.args.g.now) (the_partial c.args.q.now) in
    (lit< tt, rw c.loop-m.invariant (omega (arith, length-passing c.loop-m.m used, (the_lawful c.args.g.now).numbers.sizes.3)))

pub loop-m-preserved : goal.loop-m-preserved
loop-m-preserved c =
    let m = c.loop-m.m in
    let used = is_used (the_graph c.args.g.now) (the_partial c.args.q.now) in
    elim c.if-is_used.branch [
      | then-is_used w ↦ w.machines-is ∙ w.push.ensures ∙ ap (λ l. l ++ m ∷ []) c.loop-m.invariant ∙ sym (passing-with m used (sym c.is_used.ensures ∙ w.if-is_used.true))
      | else-is_used w ↦ w.machines-is ∙ c.loop-m.invariant ∙ sym (passing-without m used (sym c.is_used.ensures ∙ w.if-is_used.false))
    ]
