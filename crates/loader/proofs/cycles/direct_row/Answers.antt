use Rattle.std.proofs.Common.{false, rules}
use Rattle.loader.specs.View.{leads}
use Rattle.model.proofs.Chains.{array_from_fn}
use Rattle.loader.proofs.cycles.direct_row.Goals as goal

pub returns : goal.returns
returns c = array_from_fn (leads c.args.transfers.now c.args.a) false c.from_fn.ensures.items (λ i y q k. search rules)
