use Rattle.std.proofs.Common.{Ok, Err, sym, refl, ap, ◌∙◌}
use Rattle.std.proofs.lemmas.Result.{err_from_is_err_and}
use Rattle.loader.specs.Meaning.{description_of}
use Rattle.loader.specs.Parse.{decode, cycle_test}
use Rattle.loader.proofs.Chaining.{and_then-at}
use Rattle.loader.proofs.Assembling.{decoded-lawful}
use Rattle.loader.proofs.load.read.Goals as goal

pub returns-in_err-refuse_cycle : goal.returns-in_err-refuse_cycle
returns-in_err-refuse_cycle c =
    let p = err_from_is_err_and c.from_residual-in_err-refuse_cycle.result c.from_residual-in_err-refuse_cycle.ensures.1 in
    let d = description_of c.in_ok-sizes.sizes c.in_ok-sizes.works c.in_ok-sizes.transfers in
    rw (p.1, p.2) (and_then-at (decode c.args.bytes.now) cycle_test d (Err _) c.in_ok-sizes.ensures (c.in_err-refuse_cycle.ensures d refl (sym c.as_slice.ensures)))

pub build-requires : goal.build-requires
build-requires c =
    let d = description_of c.in_ok-sizes.sizes c.in_ok-sizes.works c.in_ok-sizes.transfers in
    decoded-lawful c.args.bytes.now d c.in_ok-sizes.ensures (c.in_ok-refuse_cycle.ensures d refl (sym c.as_slice.ensures))

pub returns : goal.returns
returns c =
    let d = description_of c.in_ok-sizes.sizes c.in_ok-sizes.works c.in_ok-sizes.transfers in
    and_then-at (decode c.args.bytes.now) cycle_test d (Ok _) c.in_ok-sizes.ensures (c.in_ok-refuse_cycle.ensures d refl (sym c.as_slice.ensures) ∙ ap Ok (sym c.build.ensures))
