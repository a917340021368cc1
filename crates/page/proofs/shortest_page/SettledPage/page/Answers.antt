use Rattle.std.proofs.Common.{◌≡◌, ◌≤◌, true, length, Ok, rules, sym, subst, ◌∙◌}
use Rattle.loader.specs.Meaning.{the_graph}
use Rattle.loader.proofs.Laws.{the_lawful}
use Rattle.search.specs.Calls.{best_fault, floor_fault, answer_or}
use Rattle.search.specs.Promise.{InRun, floor, length as best_length}
use Rattle.search.specs.Runs.{Moment}
use Rattle.search.specs.States.{moment, search_of}
use Rattle.search.proofs.Calls.{promised-to, floor-run, best-run}
use Rattle.page.specs.declared.page.TheConstants.{BLANK}
use Rattle.page.proofs.Telling.{never, roomy, page-told, run-told, page-refuses, ends-shortest, is-shortest}
use Rattle.page.proofs.shortest_page.SettledPage.page.Goals as goal

pub returns-in_err-length-clause-run : goal.returns-in_err-length-clause-run
returns-in_err-length-clause-run g c done r h = run-told c.args.g.now true done _ r (length c.args.buffer.now) _ (search rules) h

pub returns : goal.returns
returns g c =
    let m : Moment = moment (search_of c.args.self.now) c.args.table.now (g.L.OpenList.bag c.args.list.now) (g.L.OpenList.limit c.args.list.now) in
    let best : Ok c.in_ok-length.length ≡ answer_or (best_length m) (best_fault (the_graph c.args.g.now) m.sizes m.state m.limit (length BLANK)) = search rules in
    let low : Ok c.in_ok-floor.floor ≡ answer_or (floor m) (floor_fault (the_graph c.args.g.now) m.sizes m.state m.limit) = search rules in
    let told = page-told _ true m _ BLANK _ _ _ best c.best.ensures.rows low c.tally.ensures.is _ _ _ c.write.ensures.is c.write.ensures.buffer in record {
      is = told.0;
      refused = page-refuses c.args.g.now true m (length c.args.buffer.now) _ told.0;
      buffer = told.1;
      same = search rules;
      run = λ done r h. run-told c.args.g.now true done _ r (length c.args.buffer.now) _ told.0 h;
      room = λ done r. roomy _ true m _ BLANK _ _ _ best c.best.ensures.rows low c.tally.ensures.is c.write.ensures.room;
      ending = ends-shortest (the_graph c.args.g.now) m;
      shortest = λ r x. is-shortest c.args.g.now m r;
      promise = promised-to c.args.g.now;
    }

pub returns-in_err-length-clause-room : goal.returns-in_err-length-clause-room
returns-in_err-length-clause-room g c done r =
    let fits : (the_graph c.args.g.now).tasks ≤ 32 = (the_lawful c.args.g.now).numbers.sizes.1 in
    never _ _ (sym (c.best.ensures.is ∙ (best-run c.args.g.now done _ r (length BLANK) fits).0) ∙ c.in_err-length.was)

pub returns-in_err-floor-clause-room : goal.returns-in_err-floor-clause-room
returns-in_err-floor-clause-room g c done r =
    let again = subst (λ l. InRun (the_graph c.args.g.now) done (moment (search_of c.args.self.now) c.args.table.now (g.L.OpenList.bag l) (g.L.OpenList.limit l))) (sym c.best.ensures.same) r in
    never _ _ (sym (c.floor.ensures.is ∙ (floor-run c.args.g.now done _ again).0) ∙ c.in_err-floor.was)

pub returns-in_err-length-clause-ending : goal.returns-in_err-length-clause-ending
returns-in_err-length-clause-ending g c = ends-shortest (the_graph c.args.g.now) (moment (search_of c.args.self.now) c.args.table.now (g.L.OpenList.bag c.args.list.now) (g.L.OpenList.limit c.args.list.now))

pub returns-in_err-length-clause-shortest : goal.returns-in_err-length-clause-shortest
returns-in_err-length-clause-shortest g c r x = is-shortest c.args.g.now (moment (search_of c.args.self.now) c.args.table.now (g.L.OpenList.bag c.args.list.now) (g.L.OpenList.limit c.args.list.now)) r

pub returns-in_err-floor-clause-ending : goal.returns-in_err-floor-clause-ending
returns-in_err-floor-clause-ending g c = ends-shortest (the_graph c.args.g.now) (moment (search_of c.args.self.now) c.args.table.now (g.L.OpenList.bag c.args.list.now) (g.L.OpenList.limit c.args.list.now))

pub returns-in_err-floor-clause-shortest : goal.returns-in_err-floor-clause-shortest
returns-in_err-floor-clause-shortest g c r x = is-shortest c.args.g.now (moment (search_of c.args.self.now) c.args.table.now (g.L.OpenList.bag c.args.list.now) (g.L.OpenList.limit c.args.list.now)) r

pub returns-in_err-length-clause-refused : goal.returns-in_err-length-clause-refused
returns-in_err-length-clause-refused g c = page-refuses c.args.g.now true (moment (search_of c.args.self.now) c.args.table.now (g.L.OpenList.bag c.args.list.now) (g.L.OpenList.limit c.args.list.now)) (length c.args.buffer.now) _ (search rules)

pub returns-in_err-floor-clause-refused : goal.returns-in_err-floor-clause-refused
returns-in_err-floor-clause-refused g c = page-refuses c.args.g.now true (moment (search_of c.args.self.now) c.args.table.now (g.L.OpenList.bag c.args.list.now) (g.L.OpenList.limit c.args.list.now)) (length c.args.buffer.now) _ (search rules)
