use Rattle.loader.specs.Meaning.{the_graph}
use Rattle.schedule.specs.Rows.{schedule_of}
use Rattle.page.specs.declared.report.Report.{Report}
use Rattle.page.specs.Texts.{Page}

-- the page of a report
abbrev pub page_of : Report → Page
page_of r = record {
  graph = the_graph r.graph.now;
  schedule = schedule_of r.rows.now;
  length = r.length;
  floor = r.floor;
  tally = r.tally;
  closing = r.closing;
}
