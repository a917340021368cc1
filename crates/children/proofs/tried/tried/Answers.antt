use Rattle.std.proofs.Common.{sym, ◌∙◌, arith, lit<}
use Rattle.std.proofs.lemmas.List.{append-nil}
use Rattle.std.proofs.lemmas.Bool.{not-true}
use Rattle.model.specs.Children.{is_used, tried}
use Rattle.model.proofs.Passing.{lowest-some, only-none, only-some, passing-room}
use Rattle.loader.specs.Meaning.{the_graph}
use Rattle.loader.proofs.Laws.{the_lawful}
use Rattle.partial.specs.Meaning.{the_partial}
use Rattle.children.proofs.tried.tried.Goals as goal

pub push-requires : goal.push-requires
push-requires c =
    let g = the_graph c.args.g.now in
    let used = is_used g (the_partial c.args.q.now) in
    let i = c.in-Some.m in
    let x = lowest-some g.machines i _ (sym c.in-Some.is ∙ c.lowest_empty.ensures) in
    (lit< tt, rw c.used_machines-machines.ensures (omega (arith, passing-room g.machines i used x.0 (not-true _ (x.1.2 x.0)), (the_lawful c.args.g.now).numbers.sizes.3)))

pub returns-in-Some : goal.returns-in-Some
unfolding tried
returns-in-Some c =
    let g = the_graph c.args.g.now in
    let used = is_used g (the_partial c.args.q.now) in
    c.push.ensures ∙ rw (c.used_machines-machines.ensures, only-some g.machines used c.in-Some.m (sym c.in-Some.is ∙ c.lowest_empty.ensures))

pub returns-in_default : goal.returns-in_default
unfolding tried
returns-in_default c =
    let g = the_graph c.args.g.now in
    let used = is_used g (the_partial c.args.q.now) in
    c.used_machines-machines.ensures ∙ rw (only-none g.machines used (sym c.in_default.is ∙ c.lowest_empty.ensures)) (sym (append-nil _))
