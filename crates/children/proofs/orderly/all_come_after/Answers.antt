use Rattle.std.proofs.Common.{◌∙◌, rules, tests}
use Rattle.std.proofs.lemmas.Iterator.{YieldsList-from_slice}
use Rattle.std.proofs.lemmas.Iterator.Search.{all_from_yields_List}
use Rattle.loader.specs.Meaning.{transfers_of}
use Rattle.loader.proofs.Sent.{every-sent}
use Rattle.partial.specs.Meaning.{the_partial}
use Rattle.children.specs.Transfers.{transfer_comes_after}
use Rattle.children.proofs.orderly.all_come_after.Goals as goal

pub returns : goal.returns
returns c =
    let g = c.args.g.now in
    let p = transfer_comes_after (the_partial c.args.q.now) in
    all_from_yields_List p _ _ c.all.result c.all.ensures.ran (YieldsList-from_slice (transfers_of g) (cc)) (λ x b q k. search (rules, tests))
    ∙ every-sent g (cc) p
