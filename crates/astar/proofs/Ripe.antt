use Rattle.std.proofs.Common.{◌≡◌, ℕ, ◌≤◌, true, false, arith}
use native.Mathlib.Decide.{dec_lt}
use borrow.Author.Clash.{clash}
use Rattle.std.proofs.lemmas.Bool.{eq-eqb, eqb-true, lt-ltb, ltb-true, and_from, and_parts, not-true, not_from_false}
use Rattle.model.specs.Graph.{Graph, Lawful}
use Rattle.model.specs.Partial.{Partial, Unfinished}
use Rattle.model.specs.NormalForm.{Normal}
use Rattle.model.specs.Reachable.{Reachable}
use Rattle.model.specs.Reachable.Reachable.{none, more}
use Rattle.model.specs.Soundness.{Orderly, is_complete}
use Rattle.model.proofs.Range.{every-off}
use Rattle.model.proofs.Rules.{reachable-obeys}
use Rattle.model.proofs.Starts.{lawful-dag, reachable-small}
use Rattle.model.proofs.Orderly.{orderly-decides}
use Rattle.queue.specs.declared.entry.Entry.{Entry}
use Rattle.astar.specs.States.{SearchState, used}
use Rattle.astar.specs.Advance.{is_sound}
use Rattle.astar.specs.Endings.{Sound}
use Rattle.astar.specs.Invariant.{IsRight, partial_at, Grown, All}
use Rattle.astar.proofs.Visiting.{lacks-one}

-- The node of an entry that is right can be expanded.

reachable-normal : (g : Graph) {s : Partial} → Reachable g s → Normal g s
reachable-normal g (none {s} e) = λ t k h p. clash (s.placed t) p (e t h)
reachable-normal g (more t m R F h N X) = X

reachable-orderly : (g : Graph) → Lawful g → (s : Partial) → Reachable g s → ((t : ℕ) → g.tasks ≤ t → s.placed t ≡ false) → Orderly g s
reachable-orderly g L s R clean =
    let V = reachable-obeys g (lawful-dag L) R in
    record {
      tasks = λ t h p. elim (dec_lt t g.tasks) [ yes l ↦ l | no l ↦ clash (s.placed t) p (clean t (omega (arith, l))) ];
      on = V.on;
      starts = λ t h p. omega (arith, reachable-small g L R t h p);
      before = V.before;
      normal = reachable-normal g R;
    }

not-complete : (g : Graph) (s : Partial) → Unfinished g s → is_complete g s ≡ false
unfolding is_complete
not-complete g s x = every-off g.tasks x.0 s.placed x.1 x.2

-- the test for a sound entry decides
module _ (g : Graph) (L : Lawful g) (w : SearchState) (e : Entry) where
  pub sound-passes : Sound g w e → is_sound g w e ≡ true
  sound-passes S =
      and_from _ _ (lt-ltb 0 e.node S.right.0.0)
      (and_from _ _ (lt-ltb e.node (used w) S.right.0.1)
      (and_from _ _ S.right.1
      (and_from _ _ (eq-eqb _ _ S.right.2)
      (and_from _ _ (not_from_false _ (not-complete g (partial_at w e.node) S.unfinished)) ((orderly-decides g L (partial_at w e.node)).1 S.orderly)))))

  pub passes-sound : is_sound g w e ≡ true → Sound g w e
  passes-sound q =
      let low = and_parts _ _ q in
      let high = and_parts _ _ low.1 in
      let waits = and_parts _ _ high.1 in
      let bound = and_parts _ _ waits.1 in
      let lacks = and_parts _ _ bound.1 in
      record {
        right = ((ltb-true _ _ low.0, ltb-true _ _ high.0), waits.0, eqb-true _ _ bound.0);
        unfinished = lacks-one g (partial_at w e.node) (not-true _ lacks.0);
        orderly = (orderly-decides g L (partial_at w e.node)).0 lacks.1;
      }

pub right-sound : (g : Graph) (w : SearchState) → Lawful g → Grown g All w → (e : Entry) → IsRight w e → is_sound g w e ≡ true
right-sound g w L G e r = sound-passes g L w e (record {
  right = r;
  unfinished = G.unfinished e.node r.0;
  orderly = reachable-orderly g L (partial_at w e.node) (G.reachable e.node r.0) (λ t. G.tasks e.node t r.0);
})
