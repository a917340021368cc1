use Rattle.std.proofs.Common.{slice_index, rules}
use Rattle.model.proofs.Chains.{array_from_fn}
use Rattle.loader.proofs.levels.Tasks.widened.Goals as goal

pub returns : goal.returns
returns c = array_from_fn (slice_index c.args.self.now.works.now) 0 c.from_fn.ensures.items (λ i y q k. search rules)
