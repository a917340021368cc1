use Rattle.std.proofs.Common.{◌∙◌}
use Rattle.search.proofs.Calls.{promised-to, floor-run, floor-least}
use Rattle.search.specs.States.{moment}
use Rattle.search.proofs.Refusing.{floor-refuses}
use Rattle.search.specs.States.{the_state}
use Rattle.search.proofs.search.Search.floor.Goals as goal

pub returns-clause-promise : goal.returns-clause-promise
returns-clause-promise g c = promised-to c.args.g.now

pub returns-clause-run : goal.returns-clause-run
returns-clause-run g c done r = let x = floor-run c.args.g.now done _ r in (c.lowest.ensures.is ∙ x.0, x.1)

pub returns-clause-refused : goal.returns-clause-refused
returns-clause-refused g c = floor-refuses c.args.g.now (moment c.args.self.now c.args.table.now (g.L.OpenList.bag c.args.list.now) (g.L.OpenList.limit c.args.list.now)) _ c.lowest.result c.lowest.ensures.is

pub returns-clause-least : goal.returns-clause-least
returns-clause-least g c = floor-least (the_state c.args.self.now.tally c.args.table.now (g.L.OpenList.bag c.args.list.now)) _ c.lowest.result (g.L.OpenList.ordered c.args.list.now) c.lowest.ensures.is
