use Rattle.std.proofs.Common.{◌≢◌, ◌&&◌, ◌||◌, Bool, false, List, [], get_or, ap, ◌∙◌, length-set, get_or-set_other, arith}
use Rattle.std.proofs.lemmas.List.FromFn.{fill_by_all}
use Rattle.loader.specs.Tables.{each_task, entry}
use Rattle.loader.proofs.Tables.{filled-more}
use Rattle.loader.proofs.cycles.through.Goals as goal

pub loop-row-preserved : goal.loop-row-preserved
loop-row-preserved c =
    let old = c.args.old.now in
    let mid = c.args.mid in
    let v = c.loop-row in
    let lt = c.loop-row-test.true in
    let is : List Bool → List Bool = λ row. each_task (λ b. get_or row b false || (get_or row mid false && entry old mid b)) in (
      simp length-set v.invariant.0,
      filled-more (λ a. is (get_or old a [])) [] v.row-items v.row-index c.row_through.result (omega arith) (c.row_through.ensures ∙ ap is (v.invariant.2 v.row-index (omega arith))) v.invariant.1,
      λ k h. let ne : k ≢ v.row-index = omega arith in rw get_or-set_other (v.invariant.2 k (omega arith)),
    )

pub returns : goal.returns
returns c =
    let old = c.args.old.now in
    let mid = c.args.mid in
    fill_by_all (λ a. each_task (λ b. entry old a b || (entry old a mid && entry old mid b))) c.loop-row.row-items 32 [] c.loop-row.invariant.0 (λ k h. c.loop-row.invariant.1 k (omega arith))
