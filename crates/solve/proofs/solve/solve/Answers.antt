use Rattle.std.proofs.Common.{rules, ◌≡◌, true, false, is_none, refl, sym, ap, ◌∙◌, subst, arith}
use Rattle.loader.specs.Meaning.{the_graph}
use Rattle.search.specs.declared.search.Search.{Search}
use Rattle.search.specs.States.{moment}
use Rattle.search.specs.Promise.{best, IsShortest}
use Rattle.nodes.specs.Meaning.{the_nodes}
use Rattle.search.specs.Runs.{Moment}
use Rattle.schedule.specs.ListSchedule.{listed}
use Rattle.astar.specs.Opening.{sizes_of, opened}
use Rattle.solve.specs.Solving.{advanced_often, ended, would_settle, ShortestAt, OpenAt}
use Rattle.solve.proofs.solve.solve.Goals as goal

pub returns-in-Ok-clause-solves : goal.returns-in-Ok-clause-solves
returns-in-Ok-clause-solves g c =
    let G = the_graph c.args.g.now in
    let N = g.B.LowerBound.number c.args.rule.now in
    let R = c.loop.invariant.run in
    let e = c.in-Ok.ensures in
    let shortest = (e.shortest (N, g.met.B.LowerBound.lower c.args.rule.now, R)).1 refl in
    subst (λ l. ShortestAt G N (moment c.in-Ok.settled.search c.loop.table (g.L.OpenList.bag l) (g.L.OpenList.limit l)))
    (sym e.same)
    (e.run N R, subst (λ (s : Search). IsShortest G (best (moment s c.loop.table (g.L.OpenList.bag c.loop.list) (g.L.OpenList.limit c.loop.list)))) (sym e.is.1) shortest)

pub returns-in-Err-clause-solves : goal.returns-in-Err-clause-solves
returns-in-Err-clause-solves g c =
    let G = the_graph c.args.g.now in
    let N = g.B.LowerBound.number c.args.rule.now in
    let lower = g.met.B.LowerBound.lower c.args.rule.now in
    let R = c.loop.invariant.run in
    let e = c.in-Err.ensures in
    let s = e.shortest (N, lower, R) in
    let P = (e.promise N lower).promise false _ R in
    subst (λ l. OpenAt G N (moment c.in-Err.search c.loop.table (g.L.OpenList.bag l) (g.L.OpenList.limit l)))
    (sym e.same)
    (subst (λ (s : Search). OpenAt G N (moment s c.loop.table (g.L.OpenList.bag c.loop.list) (g.L.OpenList.limit c.loop.list)))
    (sym e.is.1)
    (R, P.unsettled (λ z. let q : false ≡ true = s.0.1 (P.settles.0 z) in cc), P.feasible, P.bounded))

pub returns-in-Ok-clause-is : goal.returns-in-Ok-clause-is
returns-in-Ok-clause-is g c =
    let G = the_graph c.args.g.now in
    let e = c.in-Ok.ensures in
    let m : Moment = moment c.loop.search c.loop.table (g.L.OpenList.bag c.loop.list) (g.L.OpenList.limit c.loop.list) in
    let z : Moment = ended G (g.B.LowerBound.number c.args.rule.now) (the_nodes c.args.table.now) (g.L.OpenList.limit c.args.list.now) c.args.budget c.args.rounds in
    let all : c.loop.counter ≡ c.args.rounds = omega (arith, c.loop-test.false, c.loop.auto.counter-end) in
    let i = c.loop.invariant in
    let at : m ≡ z =
    (λ k. record { sizes = i.sizes k; state = (i.state ∙ ap (λ n. advanced_often G (g.B.LowerBound.number c.args.rule.now) (sizes_of G (the_nodes c.args.table.now)) (g.L.OpenList.limit c.args.list.now) c.args.budget n (opened G (g.B.LowerBound.number c.args.rule.now) (listed G G.tasks) (the_nodes c.args.table.now))) all) k; limit = i.limit k }) in
    let same : moment c.in-Ok.settled.search c.loop.table (g.L.OpenList.bag c.settle.new.list) (g.L.OpenList.limit c.settle.new.list) ≡ m = search rules in
    (search rules, same ∙ at, subst (λ w. true ≡ would_settle G w) at (ap is_none (sym e.is.0)))
