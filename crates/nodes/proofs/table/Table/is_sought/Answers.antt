use Rattle.std.proofs.lemmas.Bool.{lt-ltb}
use Rattle.nodes.proofs.Reading.{node_read}
use Rattle.nodes.proofs.table.Table.is_sought.Goals as goal

pub returns-then-i-used : goal.returns-then-i-used
returns-then-i-used c =
    rw (lt-ltb c.args.i c.args.used c.if-i-used.true, lt-ltb 0 c.args.i c.requires.above, node_read c.args.self.now.nodes.items c.args.i c.index.result.now c.requires.within c.index.ensures)
    c.is_duplicate.ensures.is
