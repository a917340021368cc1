use Rattle.std.proofs.Common.{◌≡◌, sym, subst, rules}
use Rattle.loader.specs.Meaning.{the_graph}
use Rattle.schedule.specs.Check.{checked}
use Rattle.refusal.specs.Refusing.{Refuses}
use Rattle.schedule.specs.Judged.{Judged}
use Rattle.schedule.specs.Refusals.{check_refusal}
use Rattle.schedule.specs.Refused.{CheckRefused}
use Rattle.loader.proofs.Laws.{the_lawful}
use Rattle.schedule.proofs.Judging.{check-right}
use Rattle.schedule.proofs.Breaking.{check-refuses, count-refuses}
use Rattle.schedule.proofs.check.check.Goals as goal

pub returns-clause-exactly : goal.returns-clause-exactly
returns-clause-exactly c =
    let g = c.args.g.now in
    let is : c.judged.result ≡ checked (the_graph g) c.args.rows.now = search rules in
    subst (Judged (the_graph g) c.args.rows.now) (sym is) (check-right (the_graph g) (the_lawful g).numbers.ends c.args.rows.now)

pub returns-clause-refused : goal.returns-clause-refused
returns-clause-refused c =
    let g = c.args.g.now in
    let is : c.judged.result ≡ checked (the_graph g) c.args.rows.now = search rules in
    subst (Refuses (CheckRefused (the_graph g) c.args.rows.now) check_refusal) (sym is) (check-refuses (the_graph g) c.args.rows.now)

pub returns-then-rows-tasks-clause-refused : goal.returns-then-rows-tasks-clause-refused
returns-then-rows-tasks-clause-refused c =
    count-refuses (the_graph c.args.g.now) c.args.rows.now _ (search rules) (search rules)
