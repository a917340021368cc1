use Rattle.std.proofs.Common.{refl, rules, ◌≡◌, ◌+◌, ◌-◌, suc, arith, sym, subst, ap, ◌∙◌}
use Rattle.search.specs.States.{the_state}
use Rattle.astar.specs.declared.tally.Tally.{Tally}
use Rattle.astar.specs.States.{SearchState}
use Rattle.astar.proofs.Counts.{Grows, expansion-grows, grows-on}
use Rattle.search.proofs.Keeping.{kept_on, kept_still}
use Rattle.search.proofs.Turns.{advanced-stop, advanced-go, advanced-end}
use Rattle.search.proofs.search.Search.spend.Goals as goal

pub returns-in-Err-clause-is : goal.returns-in-Err-clause-is
returns-in-Err-clause-is g c =
    let t = c.in-Err.ensures.is in
    advanced-stop _ _ _ _ (c.args.budget - c.loop.counter) _ _ _ (omega (arith, c.loop-test.true)) t.0 t.1 ∙ c.loop.invariant.is

pub loop-preserved : goal.loop-preserved
loop-preserved g c =
    let t = c.in_default.ensures in
    let i = c.loop.invariant in
    let w : SearchState = the_state c.loop.self.tally c.loop.table (g.L.OpenList.bag c.loop.list) in
    let w0 : SearchState = the_state c.args.self.now.tally c.args.table.now (g.L.OpenList.bag c.args.list.now) in
    let w1 : SearchState = the_state c.turn.new.self.tally c.turn.new.table (g.L.OpenList.bag c.turn.new.list) in
    let step : Grows w w1 = subst (Grows w) (sym t.is.1) (expansion-grows _ _ w _) in
    let left : suc (c.args.budget - (c.loop.counter + 1)) ≡ c.args.budget - c.loop.counter = omega (arith, c.loop-test.true) in record {
      is = advanced-go _ _ _ _ _ _ _ _ _ _ left t.is.0 t.is.1 t.sizes t.limit ∙ i.is;
      still = ((λ e. absurd (omega (arith, e))), omega (arith, t.still, i.still.1));
      kept = kept_on g.L.OpenList.bag g.L.OpenList.kept _ _ _ _ _ _ i.kept t.kept step.0 i.grows.1;
      grows = grows-on w0 w w1 i.grows step;
      sizes = t.sizes ∙ i.sizes;
      limit = t.limit ∙ i.limit;
    }

pub returns-clause-is : goal.returns-clause-is
returns-clause-is g c =
    advanced-end _ _ _ _ (c.args.budget - c.loop.counter) _ _ _ (omega (arith, c.loop-test.false))
    (ap (λ l. the_state c.loop.self.tally c.loop.table (g.L.OpenList.bag l)) c.last_outcome.ensures.same) c.last_outcome.ensures.is
    ∙ c.loop.invariant.is

pub returns-in-Err-clause-still : goal.returns-in-Err-clause-still
returns-in-Err-clause-still g c e =
    let t = c.in-Err.ensures.still in
    let i = c.loop.invariant.still in
    t.1 ∙ i.0 (omega (arith, e, i.1, ap (λ (s : Tally). s.expanded) t.0))

pub returns-in-Err-clause-kept : goal.returns-in-Err-clause-kept
returns-in-Err-clause-kept g c =
    let i = c.loop.invariant in
    kept_on g.L.OpenList.bag g.L.OpenList.kept _ _ _ _ _ _ i.kept c.in-Err.ensures.kept (omega (arith, ap (λ (s : Tally). s.stored) c.in-Err.ensures.still.0)) i.grows.1

pub returns-clause-still : goal.returns-clause-still
returns-clause-still g c e = let i = c.loop.invariant.still in c.last_outcome.ensures.same ∙ i.0 (omega (arith, e, i.1))

pub returns-clause-kept : goal.returns-clause-kept
returns-clause-kept g c =
    let i = c.loop.invariant in
    kept_on g.L.OpenList.bag g.L.OpenList.kept _ _ _ _ _ _ i.kept
    (kept_still g.L.OpenList.bag g.L.OpenList.kept _ _ c.loop.self.tally.stored c.loop.self.tally.stored c.last_outcome.ensures.same) (omega arith) i.grows.1

pub loop-init : goal.loop-init
loop-init g c = record { is = search rules; still = ((λ e. refl), omega arith); kept = kept_still g.L.OpenList.bag g.L.OpenList.kept _ _ _ _ refl; grows = (omega arith, omega arith); sizes = refl; limit = refl }
