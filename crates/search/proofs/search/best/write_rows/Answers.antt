use Rattle.std.proofs.Common.{arith}
use Rattle.partial.specs.Meaning.{the_partial}
use Rattle.search.proofs.Rows.{row-more}
use Rattle.search.proofs.search.best.write_rows.Goals as goal

pub loop-t-preserved : goal.loop-t-preserved
loop-t-preserved c =
    row-more (the_partial c.args.q.now) c.loop-t.t c.args.rows.now c.loop-t.rows c.machine.result c.start.result
    (omega (arith, c.requires, c.loop-t-test.true, c.tasks-t-end.ensures.is)) c.loop-t.invariant c.machine.ensures c.start.ensures
