use Rattle.std.proofs.Common.{◌≡◌, refl, sym, ◌∙◌}
use Rattle.model.specs.Soundness.{is_orderly}
use Rattle.loader.specs.Meaning.{the_graph}
use Rattle.partial.specs.Meaning.{the_partial}
use Rattle.children.proofs.Deciding.{orderly_parts, orderly_law}
use Rattle.children.proofs.orderly.is_orderly.Goals as goal
use Rattle.children.proofs.orderly.is_orderly.Goals.{then-all_in_range, else-all_in_range}

pub returns-then-all_come_after : goal.returns-then-all_come_after
returns-then-all_come_after c =
    let g = the_graph c.args.g.now in
    let s = the_partial c.args.q.now in
    let e : c.is_normal.result ≡ is_orderly g s = elim c.if-all_in_range.branch [
      | then-all_in_range w ↦ rw (w.if-all_in_range.true, sym w.value-is ∙ c.if-all_come_after.true) at (orderly_parts g s _ _ _ c.all_in_range.ensures w.all_come_after.ensures c.is_normal.ensures)
      | else-all_in_range w ↦ cc
    ] in
    record { is = e; law = orderly_law c.args.g.now s c.is_normal.result e }

pub returns-else-all_come_after : goal.returns-else-all_come_after
returns-else-all_come_after c =
    let g = the_graph c.args.g.now in
    let s = the_partial c.args.q.now in
    let e : c.if-all_in_range.value ≡ is_orderly g s = c.if-all_come_after.false ∙ elim c.if-all_in_range.branch [
      | then-all_in_range w ↦ rw (w.if-all_in_range.true, sym w.value-is ∙ c.if-all_come_after.false) at (orderly_parts g s _ _ _ c.all_in_range.ensures w.all_come_after.ensures refl)
      | else-all_in_range w ↦ rw (w.if-all_in_range.false) at (orderly_parts g s _ _ _ c.all_in_range.ensures refl refl)
    ] in
    record { is = e; law = orderly_law c.args.g.now s c.if-all_in_range.value e }
