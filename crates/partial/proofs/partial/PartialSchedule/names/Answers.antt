use Rattle.std.proofs.Common.{◌≡◌, true, get_or, Some, None, sym, ap, ◌∙◌, rules}
use Rattle.model.specs.NormalForm.{note}
use Rattle.partial.specs.Names.{the_names}
use Rattle.partial.proofs.Naming.{named_more, named_alike}
use Rattle.partial.proofs.partial.PartialSchedule.names.Goals as goal
use Rattle.partial.proofs.partial.PartialSchedule.names.Goals.{in-Some, in_default}

pub loop-t-preserved : goal.loop-t-preserved
loop-t-preserved c = elim c.match-placement.branch [
  | in-Some w ↦ let q = c.args.self.now.places in
      let x = w.in-Some.place in
      let e : get_or q c.loop-t.t None ≡ Some x = search rules in
      record {
        named = ap the_names w.names-is ∙ w.note.ensures.is ∙ ap (note x.machine true) c.loop-t.invariant.named ∙ sym (named_more q c.loop-t.t x e);
        few = search rules;
      }
  | in_default w ↦ search (rules, named_alike)
]
