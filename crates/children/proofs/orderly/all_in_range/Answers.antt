use Rattle.std.proofs.Common.{refl, rules, tests}
use Rattle.model.specs.Soundness.{in_range}
use Rattle.model.proofs.Chains.{every-below}
use Rattle.loader.specs.Meaning.{the_graph}
use Rattle.partial.specs.Meaning.{the_partial}
use Rattle.children.proofs.orderly.all_in_range.Goals as goal

pub returns : goal.returns
returns c = every-below 32 32 (in_range (the_graph c.args.g.now) (the_partial c.args.q.now)) _ _ _ refl c.all.ensures.ran (λ x b q k. search (rules, tests))
