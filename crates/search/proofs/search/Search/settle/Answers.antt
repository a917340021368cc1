use Rattle.std.proofs.Common.{refl, sym, ◌∙◌}
use Rattle.search.proofs.Calls.{promised-to, settle-run, settle-accepts, settle-refuses}
use Rattle.search.specs.States.{moment}
use Rattle.search.proofs.Refusing.{settle-accepted, settle-refused}
use Rattle.search.proofs.search.Search.settle.Goals as goal

pub returns-in-None-clause-run : goal.returns-in-None-clause-run
returns-in-None-clause-run g c b r = settle-run _ b _ r (sym c.settle_fault.ensures.is ∙ c.in-None.is)

pub returns-in-None-clause-shortest : goal.returns-in-None-clause-shortest
returns-in-None-clause-shortest g c r =
    let x = settle-accepts c.args.g.now _ r (sym c.settle_fault.ensures.is ∙ c.in-None.is) in
    (((λ e. x.0), λ e. refl), (λ e. x.1), tt)

pub returns-in-None-clause-promise : goal.returns-in-None-clause-promise
returns-in-None-clause-promise g c = promised-to c.args.g.now

pub returns-in-Some-clause-shortest : goal.returns-in-Some-clause-shortest
returns-in-Some-clause-shortest g c r =
    let x = settle-refuses c.args.g.now _ r c.in-Some.fault (sym c.in-Some.is ∙ c.settle_fault.ensures.is) in
    (((λ e. cc), λ e. absurd (x.0 e)), (λ e. cc), x.1)

pub returns-in-Some-clause-promise : goal.returns-in-Some-clause-promise
returns-in-Some-clause-promise g c = promised-to c.args.g.now

pub returns-in-None-clause-refused : goal.returns-in-None-clause-refused
returns-in-None-clause-refused g c = settle-accepted c.args.g.now (moment c.args.self c.args.table.now (g.L.OpenList.bag c.args.list.now) (g.L.OpenList.limit c.args.list.now)) (sym c.settle_fault.ensures.is ∙ c.in-None.is)

pub returns-in-Some-clause-refused : goal.returns-in-Some-clause-refused
returns-in-Some-clause-refused g c = settle-refused c.args.g.now (moment c.args.self c.args.table.now (g.L.OpenList.bag c.args.list.now) (g.L.OpenList.limit c.args.list.now)) c.in-Some.fault (sym c.settle_fault.ensures.is ∙ c.in-Some.is)
