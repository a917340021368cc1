use Rattle.std.proofs.Common.{false, arith}
use Rattle.loader.proofs.Laws.{the_lawful}
use Rattle.search.proofs.Calls.{promised-to, advance-ended, advance-course, advance-run, advance-since, advance-never, advance-met}
use Rattle.search.proofs.search.Search.advance.Goals as goal

pub returns-clause-promise : goal.returns-clause-promise
returns-clause-promise g c = promised-to c.args.g.now

pub returns-clause-ends : goal.returns-clause-ends
returns-clause-ends g c = (advance-ended _ _ c.args.budget _ _ _ _ _ c.spend.ensures.is c.spend.ensures.sizes c.spend.ensures.limit
    (the_lawful c.args.g.now) (g.L.OpenList.ordered c.args.list.now)).0

pub returns-clause-onward : goal.returns-clause-onward
returns-clause-onward g c = (advance-ended _ _ c.args.budget _ _ _ _ _ c.spend.ensures.is c.spend.ensures.sizes c.spend.ensures.limit
    (the_lawful c.args.g.now) (g.L.OpenList.ordered c.args.list.now)).1

pub returns-clause-run : goal.returns-clause-run
returns-clause-run g c = advance-run _ _ c.args.budget _ _ _ _ _ c.spend.ensures.is c.spend.ensures.sizes c.spend.ensures.limit

pub returns-clause-since : goal.returns-clause-since
returns-clause-since g c = advance-since _ _ c.args.budget _ _ _ _ _ c.spend.ensures.is c.spend.ensures.sizes c.spend.ensures.limit

pub returns-clause-never : goal.returns-clause-never
returns-clause-never g c r =
    advance-never _ _ c.args.budget _ _ _ _ _ c.spend.ensures.is c.spend.ensures.sizes c.spend.ensures.limit
    ((promised-to c.args.g.now (g.B.LowerBound.number c.args.rule.now) (g.met.B.LowerBound.lower c.args.rule.now)).promise false _ r)

pub returns-clause-course : goal.returns-clause-course
returns-clause-course g c = advance-course _ _ c.args.budget _ _ _ _ _ c.spend.ensures.is c.spend.ensures.sizes c.spend.ensures.limit
    (the_lawful c.args.g.now) (g.L.OpenList.ordered c.args.list.now) c.args.self.now.counts.nodes

pub returns-clause-met : goal.returns-clause-met
returns-clause-met g c r =
    advance-met _ _ c.args.budget _ _ _ _ _ c.spend.ensures.is c.spend.ensures.sizes c.spend.ensures.limit
    ((promised-to c.args.g.now (g.B.LowerBound.number c.args.rule.now) (g.met.B.LowerBound.lower c.args.rule.now)).promise false _ r)

pub returns-clause-kept : goal.returns-clause-kept
returns-clause-kept g c = c.spend.ensures.kept.kept _ (omega arith)
