use Rattle.std.proofs.Common.{[], arith}
use Rattle.loader.proofs.Parsing.{cycle-found, cycle-none, lowest-small}
use Rattle.loader.proofs.load.refuse_cycle.Goals as goal

pub overflow_mul-result : goal.overflow_mul-result
overflow_mul-result c = let l = lowest-small c.args.sizes.tasks _ c.in-Some.t (c.in-Some.ensures 0 []) in omega arith

pub overflow_add-result : goal.overflow_add-result
overflow_add-result c = let l = lowest-small c.args.sizes.tasks _ c.in-Some.t (c.in-Some.ensures 0 []) in omega arith

pub returns-in-Some : goal.returns-in-Some
returns-in-Some c d n m = cycle-found c.args.sizes.tasks c.args.transfers.now d n m c.in-Some.t c.in-Some.ensures

pub returns-in-None : goal.returns-in-None
returns-in-None c d n m = cycle-none c.args.sizes.tasks c.args.transfers.now d n m c.in-None.ensures
