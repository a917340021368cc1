use Rattle.std.proofs.Common.{refl}
use Rattle.model.specs.Range.{any, first}
use Rattle.model.specs.Graph.{level}
use Rattle.model.specs.Partial.{append}
use Rattle.model.specs.NormalForm.{normal_form}
use Rattle.model.specs.Children.{tried, choices}
use Rattle.model.specs.Nodes.{is_duplicate, is_held}
use Rattle.model.specs.Soundness.{is_orderly, is_complete}
use Rattle.loader.specs.View.{leads}
use Rattle.schedule.specs.ListSchedule.{listed, next_task, earliest}
use Rattle.astar.specs.Expansion.{visited, expanded}
use Rattle.astar.specs.Advance.{advanced}
use Rattle.cases.specs.Table.{NewGraph, FilesRead, Levels, ListSchedule, Bounds, Checks, Overlaps, Refused, Searches, ExampleSearched, Rounds, Numbers, Wordings, ExamplePage, FirstTests, OpenPage, WithDuplicates, BestStays, FiveTasks}
use Rattle.std.specs.Fmt.{digits}
use Rattle.page.specs.Texts.{report_text}

pub new-graph : NewGraph
new-graph = refl

pub files-read : FilesRead
unfolding any first leads
files-read = (refl, refl, refl, refl)

pub levels : Levels
unfolding level
levels = (refl, refl, refl, refl)

pub list-schedule : ListSchedule
unfolding level listed next_task earliest normal_form append
list-schedule = ((refl, refl, refl, refl), (refl, refl, refl, refl), refl)

pub bounds : Bounds
unfolding level
bounds = ((refl, refl, refl), (refl, refl, refl), (refl, refl, refl))

pub checks : Checks
unfolding any first leads
checks = (refl, refl)

pub overlaps : Overlaps
unfolding any first leads
overlaps = (refl, refl)

pub refused : Refused
unfolding any first leads
refused = (refl, refl, refl)

pub searches : Searches
unfolding any first level listed next_task earliest normal_form append tried choices is_duplicate is_held is_orderly is_complete visited expanded advanced
searches = ((refl, refl, refl), refl, (refl, refl, refl, refl))

pub example-searched : ExampleSearched
unfolding any first level listed next_task earliest normal_form append tried choices is_duplicate is_held is_orderly is_complete visited expanded advanced
example-searched = (refl, refl, refl, refl)

pub rounds : Rounds
unfolding any first level listed next_task earliest normal_form append tried choices is_duplicate is_held is_orderly is_complete visited expanded advanced
rounds = (refl, refl, refl, refl, refl)

pub numbers : Numbers
numbers = ((refl, refl, refl, refl, refl, refl, refl, refl), (refl, refl, refl, refl), (refl, refl, refl), (refl, refl, refl, refl, refl))

pub first-tests : FirstTests
unfolding any first level listed next_task earliest normal_form append tried choices is_duplicate is_held is_orderly is_complete visited expanded advanced report_text digits
first-tests = (refl, refl, refl, refl, refl, refl, refl, refl, refl, refl, refl)

pub example-page : ExamplePage
unfolding any first level listed next_task earliest normal_form append tried choices is_duplicate is_held is_orderly is_complete visited expanded advanced report_text digits
example-page = refl

pub open-page : OpenPage
unfolding report_text digits
open-page = refl

pub with-duplicates : WithDuplicates
unfolding any first level listed next_task earliest normal_form append tried choices is_duplicate is_held is_orderly is_complete visited expanded advanced
with-duplicates = ((refl, refl, refl), (refl, refl, refl))

pub best-stays : BestStays
unfolding any first level listed next_task earliest normal_form append tried choices is_duplicate is_held is_orderly is_complete visited expanded advanced
best-stays = (refl, refl)

pub five-tasks : FiveTasks
unfolding any first level listed next_task earliest normal_form append tried choices is_duplicate is_held is_orderly is_complete visited expanded advanced
five-tasks = (refl, refl, refl)

pub wordings : Wordings
unfolding digits
wordings = (refl, refl, refl, refl, refl, refl)
