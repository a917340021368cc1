use Rattle.std.proofs.Common.{ℕ, get_or, sym, ap, ◌∙◌, rules, tests}
use Rattle.std.proofs.lemmas.Iterator.{YieldsList-from_slice, YieldsList-from_map}
use Rattle.std.proofs.lemmas.Iterator.Consumers.{YieldsList-at, reduce_from_yields_List}
use Rattle.std.proofs.lemmas.List.Folds.{max_of_map}
use Rattle.std.specs.Option.{unwrap_or}
use Rattle.model.specs.Range.{top}
use Rattle.model.specs.Graph.{level}
use Rattle.model.proofs.Range.{top-same}
use Rattle.model.proofs.Chains.{top-listed}
use Rattle.loader.specs.Meaning.{the_graph}
use Rattle.bounds.proofs.path_bound.greatest_level.Goals as goal

pub returns : goal.returns
returns c =
    let g = the_graph c.args.g.now in
    let levels = c.bottom_levels-levels.result.now in
    c.unwrap_or.ensures
    ∙ ap (λ o. unwrap_or o 0) (reduce_from_yields_List _ _ c.max.result c.max.ensures.ran
    (YieldsList-from_map _ (λ (l : ℕ). l) (YieldsList-at c.map.ensures.source (YieldsList-from_slice levels (cc))) c.map.ensures.closure (λ x b q k. search (rules, tests))))
    ∙ max_of_map (λ (l : ℕ). l) levels
    ∙ sym (top-listed (λ (l : ℕ). l) 0 levels)
    ∙ ap (λ (n : ℕ). top n (λ t. get_or levels t 0)) c.bottom_levels-levels.ensures.len
    ∙ top-same g.tasks (λ t. get_or levels t 0) (level g) c.bottom_levels-levels.ensures.each
