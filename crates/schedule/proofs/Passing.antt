use Rattle.std.proofs.Common.{◌≡◌, ℕ, ◌+◌, ◌<◌, ◌≤◌, List, length, get_or, take, None, Option, sym, ap, ◌∙◌, subst, arith, length-take-le, get_or-take}
use native.Mathlib.Decide.{dec_lt}
use Rattle.std.proofs.lemmas.List.{get_or_past}
use Rattle.model.specs.Graph.{Graph, Ends}
use Rattle.model.specs.Schedule.{Schedule, Feasible, makespan}
use Rattle.model.specs.Partial.{whole}
use Rattle.model.proofs.Range.{top-same}
use Rattle.partial.specs.declared.placement.Placement.{Placement}
use Rattle.partial.specs.Places.{machine_of, start_of, partial_of}
use Rattle.schedule.specs.Rows.{blank, schedule_of}
use Rattle.schedule.specs.Judged.{Passes}

-- the row of a placement
abbrev pub row_of : Option Placement → Placement
row_of x = record { machine = machine_of x; start = start_of x }

-- rows written task by task are the schedule
pub rows_are : (rows : List Placement) (q : List (Option Placement)) → length rows ≡ 32 → length q ≡ 32 → ((k : ℕ) → k < 32 → get_or rows k blank ≡ row_of (get_or q k None)) → schedule_of rows ≡ whole (partial_of q)
rows_are rows q a b h = λ i. record { machine = λ k. (at k i).machine; start = λ k. (at k i).start }
  where
    at : (k : ℕ) → get_or rows k blank ≡ row_of (get_or q k None)
    at k = elim (dec_lt k 32) [ yes l ↦ h k l | no l ↦ get_or_past rows k blank (omega arith) ∙ ap row_of (sym (get_or_past q k None (omega arith))) ]

-- the rules speak of the graph's tasks only
abbrev Alike : Graph → Schedule → Schedule → Type 0
Alike g p q = (t : ℕ) → t < g.tasks → (p.machine t ≡ q.machine t) × (p.start t ≡ q.start t)

pub alike-feasible : (g : Graph) → Ends g → (p q : Schedule) → Alike g p q → Feasible g p → Feasible g q
alike-feasible g E p q A F = record {
  on = λ t h. omega (arith, (A t h).0, F.on t h);
  starts = λ t h. omega (arith, (A t h).1, F.starts t h);
  after = λ k h.
      let f = A (g.from k) (E k h).0 in
      let t = A (g.to k) (E k h).1 in
      rw (← f.0, ← f.1, ← t.0, ← t.1) (F.after k h);
  apart = λ a b ha hb ne e.
      let x = A a ha in
      let y = A b hb in
      rw (← x.1, ← y.1) (F.apart a b ha hb ne (x.0 ∙ e ∙ sym y.0));
}

pub alike-makespan : (g : Graph) (p q : Schedule) → Alike g p q → makespan g p ≡ makespan g q
alike-makespan g p q A = top-same g.tasks (λ t. p.start t + g.work t) (λ t. q.start t + g.work t) (λ t h. ap (λ (x : ℕ). x + g.work t) (A t h).1)

pub taken-alike : (g : Graph) (rows : List Placement) → Alike g (schedule_of rows) (schedule_of (take g.tasks rows))
taken-alike g rows t h = let e = get_or-take g.tasks rows t blank h in (ap (λ (r : Placement). r.machine) (sym e), ap (λ (r : Placement). r.start) (sym e))

-- rows of a feasible schedule pass, as many as there are tasks
pub rows_pass : (g : Graph) → Ends g → g.tasks ≤ 32 → (rows : List Placement) (p : Schedule) → length rows ≡ 32 → schedule_of rows ≡ p → Feasible g p → Passes g (take g.tasks rows)
rows_pass g E small rows p l e F =
    (length-take-le g.tasks rows (omega arith), alike-feasible g E (schedule_of rows) (schedule_of (take g.tasks rows)) (taken-alike g rows) (subst (Feasible g) (sym e) F))
