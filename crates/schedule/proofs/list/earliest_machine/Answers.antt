use Rattle.std.proofs.Common.{◌≡◌, rules, tests, sym, subst, ap, ◌∙◌, refl, arith}
use Rattle.std.specs.List.{reduce, range_with_len}
use Rattle.std.specs.Option.{unwrap_or}
use Rattle.std.specs.Ordering.{nat_cmp}
use Rattle.std.proofs.lemmas.Iterator.{YieldsList-from_range}
use Rattle.model.specs.Partial.{start_on}
use Rattle.loader.specs.Meaning.{the_graph}
use Rattle.loader.proofs.Laws.{the_lawful}
use Rattle.partial.specs.Meaning.{the_partial}
use Rattle.schedule.specs.ListSchedule.{earliest, Earliest}
use Rattle.schedule.proofs.Picking.{pick, least-picked}
use Rattle.schedule.proofs.Choosing.{earliest-found, earliest-is}
use Rattle.schedule.proofs.list.earliest_machine.Goals as goal

pub returns : goal.returns
returns c =
    let G = the_graph c.args.g.now in
    let s = the_partial c.args.q.now in
    let key = start_on G s c.args.t in
    let some = (the_lawful c.args.g.now).numbers.sizes.2 in
    let e : c.min_by_key.result ≡ reduce (pick nat_cmp key) (range_with_len 0 G.machines) =
    least-picked nat_cmp key _ (λ x k q d. search (rules, tests)) _ c.min_by_key.result c.min_by_key.ensures.ran (YieldsList-from_range 0 _ G.machines refl (omega arith)) in
    let is : c.unwrap_or.result ≡ earliest G s c.args.t G.machines = c.unwrap_or.ensures ∙ ap (λ o. unwrap_or o 0) e ∙ earliest-found G s c.args.t G.machines some in
    record { is = is; law = subst (Earliest G s c.args.t) (sym is) (earliest-is G s c.args.t some) }
