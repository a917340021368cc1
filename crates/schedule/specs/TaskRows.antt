use Rattle.model.specs.Graph.{Graph}
use Rattle.model.specs.Schedule.{Schedule}
use Rattle.loader.specs.Meaning.{the_graph}
use Rattle.schedule.specs.declared.check.TaskRows.{TaskRows}
use Rattle.schedule.specs.Rows.{schedule_of}

-- the graph whose tasks the rows are for
abbrev pub rows_graph : TaskRows → Graph
rows_graph r = the_graph r.graph.now

-- the schedule that the rows mean
abbrev pub rows_schedule : TaskRows → Schedule
rows_schedule r = schedule_of r.rows.now
