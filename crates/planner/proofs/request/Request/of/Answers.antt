use Rattle.std.proofs.Common.{◌+◌, map, sym, subst, arith}
use Rattle.std.specs.Prelude.{string_bytes}
use Rattle.std.proofs.lemmas.List.{length-map}
use Rattle.planner.specs.declared.request.Request.TheVariants.{Search}
use Rattle.planner.specs.Options.{settings}
use Rattle.planner.specs.Requests.{Sets}
use Rattle.planner.specs.Requests.Sets.{none, more}
use Rattle.planner.proofs.Asking.{asks-once}
use Rattle.planner.proofs.request.Request.of.Goals as goal

pub loop-place-init : goal.loop-place-init
loop-place-init c = subst (Sets (map string_bytes c.args.words.now) 1) (sym c.usual-options.ensures) none

pub loop-place-preserved : goal.loop-place-preserved
loop-place-preserved c =
    let e = c.in-Ok.ensures in
    subst (Sets (map string_bytes c.args.words.now) (c.loop-place.place + 2)) (sym e.5)
    (more e.0 e.1 c.loop-place.invariant e.2 e.3 e.4)

pub returns-in-Err-clause-one : goal.returns-in-Err-clause-one
returns-in-Err-clause-one c =
    λ r a. asks-once (map string_bytes c.args.words.now) r c.in-Err.request a (c.in-Err.ensures (settings c.loop-place.options) c.loop-place.invariant)

pub returns-clause-one : goal.returns-clause-one
returns-clause-one c =
    λ r a. asks-once (map string_bytes c.args.words.now) r (Search c.loop-place.options) a
    (c.loop-place.place, c.loop-place.invariant, omega (arith, length-map c.args.words.now string_bytes, c.loop-place-test.false))
