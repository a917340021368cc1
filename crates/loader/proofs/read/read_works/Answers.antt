use Rattle.std.proofs.Common.{◌≡◌, ℕ, ◌+◌, ◌*◌, ◌≤◌, length, take, Err, Ok, ◌∙◌, subst, length-set, arith}
use Rattle.std.proofs.lemmas.Result.{err_from_is_err_and}
use Rattle.std.proofs.lemmas.List.{take-append-le}
use Rattle.loader.specs.Parse.{work_at, read_works}
use Rattle.loader.proofs.Reading.{works-stop, works-more}
use Rattle.loader.proofs.read.read_works.Goals as goal

pub returns-in_err-work-clause-is : goal.returns-in_err-work-clause-is
returns-in_err-work-clause-is c =
    let p = err_from_is_err_and c.from_residual.result c.from_residual.ensures.1 in
    let v = c.loop-work in
    let e : work_at c.args.records.now.bytes.now (8 + 6 * v.work-index) ≡ Err c.in_err-work.field-0.0 = cc c.in_err-work.ensures.is in
    rw (p.1, p.2) (works-stop c.args.records.now.bytes.now v.work-items v.work-index v.invariant.0 c.args.sizes.tasks _ (omega arith) e)

pub loop-work-preserved : goal.loop-work-preserved
loop-work-preserved c =
    let v = c.loop-work in
    let e : work_at c.args.records.now.bytes.now (8 + 6 * v.work-index) ≡ Ok c.in_ok-work.field-0 = cc c.in_ok-work.ensures.is in
    (works-more c.args.records.now.bytes.now v.work-items v.work-index v.invariant.0 _ (omega arith) e, omega (arith, c.in_ok-work.ensures.at), c.in_ok-work.ensures.bytes ∙ v.invariant.2, simp length-set v.invariant.3)

pub returns-clause-is : goal.returns-clause-is
returns-clause-is c =
    let v = c.loop-work in
    let n = c.args.sizes.tasks in
    let end : v.work-index ≡ n = omega arith in
    let le : n ≤ length v.work-items = omega arith in
    rw take-append-le (subst (λ (k : ℕ). read_works c.args.records.now.bytes.now k ≡ Ok (take k v.work-items)) end v.invariant.0)
