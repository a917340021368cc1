use Rattle.std.proofs.Common.{rules}
use Rattle.std.proofs.lemmas.Iterator.{YieldsList-from_range}
use Rattle.std.proofs.lemmas.Iterator.Consumers.{fold_from_yields_List}
use Rattle.partial.specs.Meaning.{the_partial}
use Rattle.nodes.specs.Hash.{word_of, mixed, hash_of}
use Rattle.nodes.proofs.hash.hash.Goals as goal

pub returns : goal.returns
unfolding hash_of
returns c =
    let w = word_of (the_partial c.args.q.now) in
    fold_from_yields_List _ (λ h t. mixed h (w t)) 0 c.fold.result c.fold.ensures.ran (YieldsList-from_range 0 32 32 (search rules) (search rules)) (λ h t r q k. search rules)
