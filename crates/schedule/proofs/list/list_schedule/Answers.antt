use Rattle.std.proofs.Common.{◌≡◌, sym, ap, ◌∙◌, subst, arith}
use Rattle.model.specs.Partial.{Partial, Unfinished}
use Rattle.loader.specs.declared.graph.TaskGraph.{TaskGraph}
use Rattle.loader.specs.Meaning.{the_graph}
use Rattle.loader.proofs.Laws.{the_lawful}
use Rattle.partial.specs.Meaning.{the_partial}
use Rattle.schedule.specs.ListSchedule.{next_task, extend, listed}
use Rattle.schedule.proofs.Listing.{Facts, facts, facts-open, listed-facts, facts-complete, facts-feasible, listed-none, listed_more}
use Rattle.schedule.proofs.list.list_schedule.Goals as goal

pub loop-init : goal.loop-init
loop-init c = record {
  same_graph = c.start-list.ensures.graph;
  placed = c.start-list.ensures.placed ∙ sym (listed-none (the_graph c.args.g.now));
}

pub turn-requires : goal.turn-requires
turn-requires c =
    let G = the_graph c.args.g.now in
    let v = c.loop.invariant in
    let s = the_partial c.loop.list.placed in
    let F : Facts G c.loop.counter s = subst (Facts G c.loop.counter) (sym v.placed) (facts G (the_lawful c.args.g.now) c.loop.counter (omega arith)) in
    subst (λ (g : TaskGraph). Unfinished (the_graph g) s) (sym v.same_graph) (facts-open G c.loop.counter s F (omega arith))

pub loop-preserved : goal.loop-preserved
loop-preserved c =
    let G = the_graph c.args.g.now in
    let v = c.loop.invariant in
    let e = c.turn.ensures in
    let s = the_partial c.loop.list.placed in
    record {
      same_graph = e.graph ∙ v.same_graph;
      placed = e.placed
          ∙ ap (λ (g : TaskGraph). extend (the_graph g) s (next_task (the_graph g) s g.tasks)) v.same_graph
          ∙ ap (λ (x : Partial). extend G x (next_task G x G.tasks)) v.placed ∙ sym (listed_more G c.loop.counter);
    }

pub returns : goal.returns
returns c =
    let g = c.args.g.now in
    let G = the_graph g in
    let L = the_lawful g in
    let s = the_partial c.loop.list.placed in
    let e : s ≡ listed G G.tasks = c.loop.invariant.placed ∙ ap (listed G) (let z : c.loop.counter ≡ G.tasks = omega arith in z) in
    let F = listed-facts G L s e in
    record { is = e; rule = F.rule; complete = facts-complete G L s F; feasible = facts-feasible G L s F; reachable = F.reachable }
