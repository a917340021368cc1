use Rattle.std.proofs.Common.{◌≤◌, arith}
use Rattle.model.specs.Partial.{start_on}
use Rattle.loader.specs.Meaning.{the_graph}
use Rattle.loader.proofs.Laws.{the_lawful}
use Rattle.partial.specs.Meaning.{the_partial}
use Rattle.schedule.proofs.Listing.{starts-low, child-given}
use Rattle.schedule.proofs.list.extend.Goals as goal

-- a free task can always be appended
pub unwrap-requires : goal.unwrap-requires
unwrap-requires c =
    let g = c.args.g.now in
    let s = the_partial c.args.q.now in
    let m = c.earliest_machine-m.result in
    let low : start_on (the_graph g) s c.args.t m ≤ 64000 = starts-low (the_graph g) (the_lawful g) s c.requires.state c.args.t m c.requires.task in
    child-given (the_graph g) s c.args.t m _ c.child.result c.child.ensures.is (c.requires.task, c.earliest_machine-m.ensures.law.low, omega arith)
