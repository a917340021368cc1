use Rattle.std.proofs.Common.{rules, refl, ◌+◌, ◌-◌, ◌≡◌, length, arith, sym, subst, ◌∙◌}
use Rattle.astar.specs.States.{SearchState}
use Rattle.astar.proofs.Counts.{Grows, visit-grows, grows-on}
use Rattle.search.specs.States.{the_state}
use Rattle.search.specs.Counts.{Room}
use Rattle.search.proofs.Keeping.{kept_still, kept_on}
use Rattle.search.proofs.Folding.{fold-map-more, choice-at}
use Rattle.search.proofs.expand.visit_all.Goals as goal

pub visit_choice-requires-clause-appendable : goal.visit_choice-requires-clause-appendable
visit_choice-requires-clause-appendable g c = c.requires.appendable _ _ (choice-at c.args.choices.now c.loop-choice.choice-index _ c.loop-choice-test.true)

pub loop-choice-preserved : goal.loop-choice-preserved
loop-choice-preserved g c =
    let i = c.loop-choice.invariant in
    let v = c.visit_choice.ensures in
    let w : SearchState = the_state c.loop-choice.tally c.loop-choice.table (g.L.OpenList.bag c.loop-choice.list) in
    let w0 : SearchState = the_state c.args.tally.now c.args.table.now (g.L.OpenList.bag c.args.list.now) in
    let w1 : SearchState = the_state c.visit_choice.new.tally c.visit_choice.new.table (g.L.OpenList.bag c.visit_choice.new.list) in
    let step : Grows w w1 = subst (Grows w) (sym v.is) (visit-grows _ _ _ w _) in
    let left : length c.args.choices.now - c.loop-choice.choice-index ≡ length c.args.choices.now - (c.loop-choice.choice-index + 1) + 1 = omega (arith, c.loop-choice-test.true) in record {
      is = fold-map-more _ _ _ _ _ c.args.choices.now c.loop-choice.choice-index _ c.loop-choice-test.true i.is v.is;
      room = v.room _ (subst (λ n. Room n (g.L.OpenList.limit c.loop-choice.list) (the_state c.loop-choice.tally c.loop-choice.table (g.L.OpenList.bag c.loop-choice.list))) left i.room);
      kept = kept_on g.L.OpenList.bag g.L.OpenList.kept _ _ _ _ _ _ i.kept v.kept step.0 i.grows.1;
      grows = grows-on w0 w w1 i.grows step;
      limit = v.limit ∙ i.limit;
    }

pub loop-choice-init : goal.loop-choice-init
loop-choice-init g c = record { is = search rules; room = search rules; kept = kept_still g.L.OpenList.bag g.L.OpenList.kept _ _ _ _ refl; grows = (omega arith, omega arith); limit = refl }
