use Rattle.std.proofs.Common.{◌≡◌, ◌&&◌, nat_eq, sym, ◌∙◌, rules, tests}
use Rattle.std.specs.List.{list_any}
use Rattle.std.proofs.lemmas.Iterator.{YieldsList-from_slice}
use Rattle.std.proofs.lemmas.Iterator.Search.{any_from_yields_List}
use Rattle.model.proofs.Chains.{any-listed}
use Rattle.loader.specs.declared.transfer.Transfer.{Transfer}
use Rattle.loader.specs.View.{blank, leads}
use Rattle.loader.proofs.pairs.joined.Goals as goal

pub returns : goal.returns
unfolding leads
returns c =
    let ts = c.args.transfers.now in
    let joins = λ (e : Transfer). nat_eq e.from c.args.from && nat_eq e.to c.args.to in
    let e : c.any.result ≡ list_any joins ts = any_from_yields_List joins _ _ c.any.result c.any.ensures.ran (YieldsList-from_slice ts cc) (λ x b q k. search (rules, tests)) in
    e ∙ sym (any-listed joins blank ts)
