use Rattle.std.proofs.Common.{◌≡◌, true, false, length, rules, tests}
use Rattle.std.proofs.lemmas.Iterator.{first_from_Range}
use Rattle.model.specs.Cycles.{reach}
use Rattle.loader.specs.Tables.{entry}
use Rattle.loader.specs.View.{graph_of}
use Rattle.loader.proofs.Tables.{lowest-told}
use Rattle.loader.proofs.cycles.lowest_on_cycle.Goals as goal

pub returns : goal.returns
returns c p ws =
    let n = c.args.tasks in
    let ts = c.args.transfers.now in
    let table = c.closed-table.result in
    lowest-told n table (reach (graph_of n p ws (length ts) ts) n) c.find.result c.requires (c.closed-table.ensures p ws)
    (first_from_Range _ _ _ c.find.result (λ t. entry table t t ≡ true) (λ t. entry table t t ≡ false) c.find.ensures.ran (λ t q k. search (rules, tests)) (λ t q k. search (rules, tests)))
