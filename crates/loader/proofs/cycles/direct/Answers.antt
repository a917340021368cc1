use Rattle.std.proofs.Common.{[], length-set, arith}
use Rattle.std.proofs.lemmas.List.FromFn.{fill_by_all}
use Rattle.loader.specs.Tables.{each_task}
use Rattle.loader.specs.View.{leads}
use Rattle.loader.proofs.Tables.{filled-more}
use Rattle.loader.proofs.cycles.direct.Goals as goal

pub loop-a-preserved : goal.loop-a-preserved
loop-a-preserved c =
    let v = c.loop-a in
    let lt = c.loop-a-test.true in
    (simp length-set v.invariant.0, filled-more (λ a. each_task (leads c.args.transfers.now a)) [] v.row-items v.a c.direct_row.result (omega arith) c.direct_row.ensures v.invariant.1)

pub returns : goal.returns
returns c = fill_by_all (λ a. each_task (leads c.args.transfers.now a)) c.loop-a.row-items 32 [] c.loop-a.invariant.0 (λ k h. c.loop-a.invariant.1 k (omega arith))
