use Rattle.std.proofs.Common.{◌≡◌, false, ◌∙◌, rules, tests}
use Rattle.std.proofs.lemmas.Iterator.{YieldsList-from_slice}
use Rattle.std.proofs.lemmas.Iterator.Search.{all_from_yields_List}
use Rattle.loader.specs.Meaning.{transfers_of}
use Rattle.partial.specs.Meaning.{the_partial}
use Rattle.partial.specs.Transfers.{transfer_fed}
use Rattle.loader.proofs.Sent.{every-sent}
use Rattle.partial.proofs.partial.PartialSchedule.is_ready.Goals as goal

pub returns-then-not-is_placed : goal.returns-then-not-is_placed
returns-then-not-is_placed c =
    let g = c.args.g.now in
    let s = the_partial c.args.self.now in
    let p = transfer_fed s c.args.t in
    let z : s.placed c.args.t ≡ false = search rules in
    rw z
    (all_from_yields_List p _ _ c.all.result c.all.ensures.ran (YieldsList-from_slice (transfers_of g) (cc)) (λ x b q k. search (rules, tests))
    ∙ every-sent g (cc) p)
