use Rattle.std.proofs.Common.{true, codes}
use Rattle.loader.specs.Meaning.{the_graph}
use Rattle.search.specs.Runs.{Moment}
use Rattle.search.specs.States.{moment, search_of}
use Rattle.page.specs.Pages.{text_of, page_of}
use Rattle.page.proofs.LastWords.{closed-by}
use Rattle.page.proofs.Telling.{last-written}
use Rattle.page.proofs.pages.shortest_page.Goals as goal

pub returns-clause-ending : goal.returns-clause-ending
returns-clause-ending g c =
    let m : Moment = moment (search_of c.args.settled.now) c.args.table.now (g.L.OpenList.bag c.args.list.now) (g.L.OpenList.limit c.args.list.now) in
    let G = the_graph c.args.g.now in
    last-written (text_of G true m) (codes "shortest") _ c.args.buffer.now _ c.page.result c.page.ensures.is c.page.ensures.buffer (closed-by (page_of G true m))
