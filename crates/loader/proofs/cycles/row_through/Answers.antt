use Rattle.std.proofs.Common.{◌&&◌, ◌||◌, false, get_or, rules, tests}
use Rattle.model.proofs.Chains.{array_from_fn}
use Rattle.loader.proofs.cycles.row_through.Goals as goal

pub returns : goal.returns
returns c =
    let row = c.args.row.now in
    array_from_fn (λ b. get_or row b false || (get_or row c.args.mid false && get_or c.args.onward.now b false)) false c.from_fn.ensures.items (λ i y q k. search (rules, tests))
