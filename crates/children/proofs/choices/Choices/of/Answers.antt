use Rattle.std.proofs.Common.{◌≡◌, ℕ, length, sym, ap, ◌∙◌, subst, arith}
use Rattle.std.specs.List.{flat_map, Contains, AllPairs}
use Rattle.std.specs.Prelude.{◌↔◌}
use Rattle.std.proofs.lemmas.List.{length-map}
use Rattle.model.specs.Partial.{Free, is_free}
use Rattle.model.specs.Children.{Tried, ChoiceFirst, passing, tried, choices}
use Rattle.model.proofs.Choosing.{tries, choices-are}
use Rattle.model.proofs.Ordering.{choices-ordered}
use Rattle.model.proofs.Passing.{made-with, passing-without, length-made}
use Rattle.loader.specs.Meaning.{the_graph}
use Rattle.loader.proofs.Laws.{the_lawful}
use Rattle.partial.specs.Meaning.{the_partial}
use Rattle.children.specs.declared.choice.Choice.{Choice}
use Rattle.children.specs.Choices.{pairs_of}
use Rattle.children.proofs.Deciding.{choice_appendable}
use Rattle.children.proofs.choices.Choices.of.Goals as goal
use Rattle.children.proofs.choices.Choices.of.Goals.{then-is_free, else-is_free}

pub add-requires : goal.add-requires
add-requires c =
    let g = the_graph c.args.g.now in
    let s = the_partial c.args.q.now in
    let t = c.loop-t.t in
    let machines : length (tried g s) ≡ length c.as_slice.result.now = ap length (sym c.tried-machines.ensures ∙ sym c.as_slice.ensures.is) in
    let few = length-made (tries g s) 8 t (is_free g s) (λ k. omega (arith, length-map {B = ℕ × ℕ} (tried g s) (λ m. (k, m)), machines)) in
    omega (arith, few, ap length c.loop-t.invariant, length-map {B = ℕ × ℕ} c.loop-t.list (λ (x : Choice). (x.task, x.machine)), (the_lawful c.args.g.now).numbers.sizes.1)

pub loop-t-preserved : goal.loop-t-preserved
loop-t-preserved c =
    let g = the_graph c.args.g.now in
    let s = the_partial c.args.q.now in
    let t = c.loop-t.t in
    elim c.if-is_free.branch [
      | then-is_free w ↦ ap pairs_of w.list-is ∙ w.add.ensures
          ∙ rw (c.loop-t.invariant, w.as_slice.ensures.is, c.tried-machines.ensures) (sym (made-with (tries g s) t (is_free g s) (sym c.is_free.ensures.is ∙ w.if-is_free.true)))
      | else-is_free w ↦ ap pairs_of w.list-is ∙ c.loop-t.invariant ∙ ap (flat_map (tries g s)) (sym (passing-without t (is_free g s) (sym c.is_free.ensures.is ∙ w.if-is_free.false)))
    ]

pub returns : goal.returns
unfolding choices
returns c =
    let g = the_graph c.args.g.now in
    let s = the_partial c.args.q.now in
    let t : c.loop-t.t ≡ g.tasks = omega arith in
    let e : pairs_of c.loop-t.list ≡ choices g s = c.loop-t.invariant ∙ ap (λ (n : ℕ). flat_map (tries g s) (passing n (is_free g s))) t in
    record {
      is = e;
      which = λ t m on. subst (λ cs. Contains cs (t, m) ↔ (Free g s t × Tried g s m)) (sym e) (choices-are g s t m on);
      order = subst (AllPairs (ChoiceFirst g s)) (sym e) (choices-ordered g s);
      appendable = λ t m O x. choice_appendable g s (the_lawful c.args.g.now) O t m (subst (λ cs. Contains cs (t, m)) e x);
    }
