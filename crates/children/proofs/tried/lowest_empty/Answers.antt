use Rattle.std.proofs.Common.{ℕ, not, rules, tests}
use Rattle.model.specs.Children.{is_used}
use Rattle.model.proofs.Chains.{lowest-below}
use Rattle.loader.specs.Meaning.{the_graph}
use Rattle.partial.specs.Meaning.{the_partial}
use Rattle.children.proofs.tried.lowest_empty.Goals as goal

pub returns : goal.returns
returns c =
    let g = the_graph c.args.g.now in
    lowest-below g.machines _ (λ (m : ℕ). not (is_used g (the_partial c.args.q.now) m)) _ _ _ c.machines.ensures c.find.ensures.ran (λ x b q k. search (rules, tests))
