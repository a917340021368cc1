use Rattle.std.proofs.Common.{◌≡◌, ◌+◌, length, Some, None, Ok, Err, sym, ◌∙◌, arith}
use Rattle.std.proofs.lemmas.Result.{err_from_is_err_and}
use Rattle.std.proofs.lemmas.List.{length_push}
use Rattle.loader.specs.Layout.{place_of}
use Rattle.loader.specs.Parse.{next_at}
use Rattle.loader.proofs.Reading.{transfers-more, transfers-end, transfers-stop, next-inside}
use Rattle.loader.proofs.read.read_transfers.Goals as goal

pub returns-in_err-transfer-clause-is : goal.returns-in_err-transfer-clause-is
returns-in_err-transfer-clause-is c =
    let p = err_from_is_err_and c.from_residual.result c.from_residual.ensures.1 in
    let v = c.loop-transfer in
    let e : next_at c.args.records.now.bytes.now c.args.sizes.tasks v.transfers (place_of c.args.sizes.tasks (length v.transfers)) ≡ Err c.in_err-transfer.field-0.0 = cc c.in_err-transfer.ensures.is in
    rw (p.1, p.2) (sym (transfers-stop c.args.records.now.bytes.now c.args.sizes.tasks v.transfers v.invariant.0 _ v.invariant.3 e))

pub loop-transfer-preserved : goal.loop-transfer-preserved
loop-transfer-preserved c =
    let v = c.loop-transfer in
    let bs = c.args.records.now.bytes.now in
    let n = c.args.sizes.tasks in
    let e : next_at bs n v.transfers (place_of n (length v.transfers)) ≡ Ok (Some c.in-Some.transfer) = cc (c.in_ok-transfer.ensures.is, c.as_slice.ensures) in
    let i = next-inside bs n v.transfers _ c.in-Some.transfer e in
    let l = length_push v.transfers c.in-Some.transfer in
    let at : c.read_next.new.records.at ≡ c.loop-transfer.records.at + 10 = rw c.in-Some.is at c.in_ok-transfer.ensures.at in
    rw c.push.ensures (transfers-more bs n v.transfers v.invariant.0 c.in-Some.transfer e, omega arith, c.in_ok-transfer.ensures.bytes ∙ v.invariant.2, omega (arith, i.1))

pub returns-clause-is : goal.returns-clause-is
returns-clause-is c =
    let v = c.loop-transfer in
    let bs = c.args.records.now.bytes.now in
    let n = c.args.sizes.tasks in
    let e : next_at bs n v.transfers (place_of n (length v.transfers)) ≡ Ok None = cc (c.in_ok-transfer.ensures.is, c.as_slice.ensures) in
    sym (transfers-end bs n v.transfers v.invariant.0 v.invariant.3 e)
