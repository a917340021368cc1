use Rattle.std.proofs.Common.{◌≡◌, MatchResult, sym, subst, rules}
use Rattle.model.specs.Schedule.{Feasible, makespan}
use Rattle.model.specs.Partial.{whole}
use Rattle.loader.specs.Meaning.{the_graph}
use Rattle.loader.proofs.Laws.{the_lawful}
use Rattle.refusal.specs.Refusing.{Refuses}
use Rattle.partial.specs.Meaning.{the_partial}
use Rattle.schedule.specs.Check.{judged}
use Rattle.schedule.specs.Refusals.{check_refusal}
use Rattle.schedule.specs.Refused.{Broken}
use Rattle.schedule.proofs.Judging.{judged-decides}
use Rattle.schedule.proofs.Breaking.{judged-refuses}
use Rattle.schedule.proofs.check.check_partial.Goals as goal

pub returns-clause-exactly : goal.returns-clause-exactly
returns-clause-exactly c =
    let g = the_graph c.args.g.now in
    let p = whole (the_partial c.args.q.now) in
    let is : c.judged.result ≡ judged g p = search rules in
    subst (λ r. MatchResult r (λ v. Feasible g p × (v ≡ makespan g p)) (λ _. Feasible g p → ⊥)) (sym is) (judged-decides g (the_lawful c.args.g.now).numbers.ends p)

pub returns-clause-refused : goal.returns-clause-refused
returns-clause-refused c =
    let g = the_graph c.args.g.now in
    let p = whole (the_partial c.args.q.now) in
    let is : c.judged.result ≡ judged g p = search rules in
    subst (Refuses (Broken g p) check_refusal) (sym is) (judged-refuses g p)
