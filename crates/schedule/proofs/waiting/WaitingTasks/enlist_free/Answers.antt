use Rattle.std.proofs.Common.{length, ap, arith, rules}
use Rattle.model.specs.Partial.{is_free}
use Rattle.loader.specs.Meaning.{the_graph}
use Rattle.loader.proofs.Laws.{the_lawful}
use Rattle.partial.specs.Meaning.{the_partial}
use Rattle.schedule.proofs.Turns.{where-none, where-more, where-length}
use Rattle.schedule.proofs.waiting.WaitingTasks.enlist_free.Goals as goal

pub loop-t-init : goal.loop-t-init
loop-t-init c = search (rules, where-none)

pub enlist-requires-clause-room : goal.enlist-requires-clause-room
enlist-requires-clause-room c =
    let G = the_graph c.args.g.now in
    omega (arith, ap length c.loop-t.invariant, where-length G (is_free G (the_partial c.args.q.now)) c.loop-t.t, (the_lawful c.args.g.now).numbers.sizes.1)

pub loop-t-preserved : goal.loop-t-preserved
loop-t-preserved c = search (rules, where-more)
