use Rattle.std.proofs.Common.{cond, nat_eq, get_or, sym, ap, ◌∙◌, rules, tests}
use Rattle.std.specs.Option.{unwrap_or}
use Rattle.std.specs.Ordering.{nat_cmp, max_by_ordering}
use Rattle.std.proofs.lemmas.Iterator.{YieldsList-from_slice, YieldsList-from_map}
use Rattle.std.proofs.lemmas.Iterator.Consumers.{reduce_from_yields_List}
use Rattle.std.proofs.lemmas.List.Folds.{max_of_map}
use Rattle.model.proofs.Chains.{top-listed}
use Rattle.loader.specs.declared.transfer.Transfer.{Transfer}
use Rattle.loader.specs.View.{blank}
use Rattle.loader.proofs.levels.Tasks.greatest_after.Goals as goal

pub returns : goal.returns
returns c =
    let ts = c.args.self.now.transfers.now in
    let brought = λ (e : Transfer). cond (nat_eq e.from c.args.t) (get_or c.args.low.now e.to 0) 0 in
    let m = reduce_from_yields_List (λ p z. max_by_ordering (nat_cmp p z) p z) _ c.max.result c.max.ensures.ran (YieldsList-from_map _ brought (YieldsList-from_slice ts cc) c.map.ensures.closure (λ x r q k. search (rules, tests))) in
    c.unwrap_or.ensures ∙ (ap (λ o. unwrap_or o 0) m ∙ (max_of_map brought ts ∙ sym (top-listed brought blank ts)))
