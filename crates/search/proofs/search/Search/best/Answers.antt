use Rattle.std.proofs.Common.{◌∙◌, length}
use Rattle.model.specs.Nodes.{node_at}
use Rattle.loader.specs.Meaning.{the_graph}
use Rattle.nodes.specs.Meaning.{the_nodes}
use Rattle.search.proofs.Calls.{promised-to, best-run}
use Rattle.search.specs.States.{moment}
use Rattle.search.proofs.Refusing.{best-refuses}
use Rattle.search.proofs.Written.{best-written, each-written, behind-written}
use Rattle.search.proofs.search.Search.best.Goals as goal

pub returns-clause-promise : goal.returns-clause-promise
returns-clause-promise g c = promised-to c.args.g.now

pub returns-clause-run : goal.returns-clause-run
returns-clause-run g c done r h = let x = best-run c.args.g.now done _ r (length c.args.rows.now) h in (c.write_best.ensures.is ∙ x.0, x.1)

pub returns-clause-refused : goal.returns-clause-refused
returns-clause-refused g c = best-refuses c.args.g.now (moment c.args.self.now c.args.table.now (g.L.OpenList.bag c.args.list.now) (g.L.OpenList.limit c.args.list.now)) (length c.args.rows.now) _ c.write_best.result c.write_best.ensures.is

pub returns-clause-written : goal.returns-clause-written
returns-clause-written g c = best-written c.args.g.now (moment c.args.self.now c.args.table.now (g.L.OpenList.bag c.args.list.now) (g.L.OpenList.limit c.args.list.now)) c.args.rows.now _ c.write_best.result c.write_best.ensures.is c.write_best.ensures.rows

pub returns-clause-each : goal.returns-clause-each
returns-clause-each g c = each-written (the_graph c.args.g.now) (node_at (the_nodes c.args.table.now) 0).partial _ _ c.args.rows.now _ c.write_best.result c.write_best.ensures.is c.write_best.ensures.rows

pub returns-clause-behind : goal.returns-clause-behind
returns-clause-behind g c = behind-written (the_graph c.args.g.now) (node_at (the_nodes c.args.table.now) 0).partial _ _ c.args.rows.now _ c.write_best.result c.write_best.ensures.is c.write_best.ensures.rows
