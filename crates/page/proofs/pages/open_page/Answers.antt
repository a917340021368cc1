use Rattle.std.proofs.Common.{false, codes}
use Rattle.loader.specs.Meaning.{the_graph}
use Rattle.search.specs.Runs.{Moment}
use Rattle.search.specs.States.{moment}
use Rattle.page.specs.Pages.{text_of, page_of}
use Rattle.page.proofs.LastWords.{closed-by}
use Rattle.page.proofs.Telling.{last-written}
use Rattle.page.proofs.pages.open_page.Goals as goal

pub returns-clause-ending : goal.returns-clause-ending
returns-clause-ending g c =
    let m : Moment = moment c.args.search.now c.args.table.now (g.L.OpenList.bag c.args.list.now) (g.L.OpenList.limit c.args.list.now) in
    let G = the_graph c.args.g.now in
    last-written (text_of G false m) (codes "open") _ c.args.buffer.now _ c.page.result c.page.ensures.is c.page.ensures.buffer (closed-by (page_of G false m))
