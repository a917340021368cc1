use Rattle.cases.proofs.Worked.{new-graph, files-read, levels, list-schedule, bounds, checks, overlaps, refused, searches, example-searched, rounds, numbers, wordings, example-page, first-tests, open-page, with-duplicates, best-stays, five-tasks}
use Rattle.cases.proofs.table.worked_cases.Goals as goal

pub returns : goal.returns
returns c = record { new = new-graph; read = files-read; levels = levels; list = list-schedule; bounds = bounds; checks = checks; overlaps = overlaps; refused = refused; searches = searches; searched = example-searched; rounds = rounds; numbers = numbers; wordings = wordings; page = example-page; open_page = open-page; first = first-tests; duplicates = with-duplicates; stays = best-stays; five = five-tasks }
