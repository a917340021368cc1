use Rattle.std.proofs.Common.{List, take, sym, ap, ◌∙◌, subst}
use Rattle.partial.specs.declared.placement.Placement.{Placement}
use Rattle.model.specs.Schedule.{makespan}
use Rattle.model.specs.Partial.{Partial, whole}
use Rattle.loader.specs.Meaning.{the_graph}
use Rattle.loader.proofs.Laws.{the_lawful}
use Rattle.partial.specs.Meaning.{the_partial}
use Rattle.schedule.specs.Rows.{schedule_of}
use Rattle.schedule.specs.Judged.{Passes}
use Rattle.schedule.proofs.Passing.{alike-makespan, taken-alike, rows_pass}
use Rattle.schedule.proofs.checked.checked_list_schedule.Goals as goal

pub returns-in_err-makespan : goal.returns-in_err-makespan
returns-in_err-makespan c =
    let g = c.args.g.now in
    let G = the_graph g in
    let P = rows_pass G (the_lawful g).numbers.ends (the_lawful g).numbers.sizes.1 c.rows-rows.result (whole (the_partial c.list_schedule.result)) c.rows-rows.ensures.len c.rows-rows.ensures.is c.list_schedule.ensures.feasible in
    absurd (c.in_err-makespan.ensures.exactly (subst (Passes G) (sym c.task_rows.ensures) P))

pub returns : goal.returns
returns c =
    let G = the_graph c.args.g.now in
    let rows = c.rows-rows.result in
    let J = c.in_ok-makespan.ensures.exactly in
    record {
      is = (
        c.rows-rows.ensures.is ∙ ap (λ (s : Partial). whole s) c.list_schedule.ensures.is,
        J.1 ∙ ap (λ (l : List Placement). makespan G (schedule_of l)) c.task_rows.ensures ∙ sym (alike-makespan G (schedule_of rows) (schedule_of (take G.tasks rows)) (taken-alike G rows)),
      );
      passes = subst (Passes G) c.task_rows.ensures J.0;
    }
