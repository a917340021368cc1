use Rattle.std.proofs.Common.{◌≡◌, ℕ, ◌≢◌, List, length, Ok, Err, Result}
use native.Mathlib.Decide.{ℕ_discrete}
use Rattle.std.proofs.lemmas.Bool.{eq-eqb, ne_eqb}
use Rattle.model.specs.Graph.{Graph}
use Rattle.model.specs.Schedule.{Schedule}
use Rattle.refusal.specs.declared.refusal.Refusal.{Refusal}
use Rattle.refusal.specs.Refusing.{Refuses}
use Rattle.partial.specs.declared.placement.Placement.{Placement}
use Rattle.schedule.specs.declared.fault.CheckFault.{CheckFault}
use Rattle.schedule.specs.declared.fault.CheckFault.TheVariants as Fault
use Rattle.schedule.specs.Rows.{schedule_of}
use Rattle.schedule.specs.Check.{judged, checked}
use Rattle.schedule.specs.Judged.{Nowhere, OutOfRange, TooEarly, Overlapping}
use Rattle.schedule.specs.Refusals.{check_refusal}
use Rattle.schedule.specs.Refused.{Broken, CheckRefused}
use Rattle.schedule.specs.Refused.Broken.{range, early, overlap}
use Rattle.schedule.specs.Refused.CheckRefused.{count, broken}
use Rattle.schedule.proofs.Judging.{judged-cases}

-- The check is refused exactly where a rule is broken, by the first that is.

none-broken : (g : Graph) (p : Schedule) → Nowhere g.tasks (OutOfRange g p) → Nowhere g.tasks (TooEarly g p) → Nowhere g.tasks (Overlapping g p)
    → (r : Refusal) → Broken g p r → ⊥
none-broken g p a b c r (range {t} x) = a t x.0 x.1
none-broken g p a b c r (early {t} n x) = b t x.0 x.1
none-broken g p a b c r (overlap {t} n m x) = c t x.0 x.1

pub judged-refuses : (g : Graph) (p : Schedule) → Refuses (Broken g p) check_refusal (judged g p)
judged-refuses g p = judged-cases g p (Refuses (Broken g p) check_refusal) (λ t x. range x) (λ t a x. early a x) (λ t a b x. overlap a b x) (none-broken g p)

module _ (g : Graph) (rows : List Placement) where
  by-rule : length rows ≡ g.tasks → (x : Result ℕ CheckFault) → Refuses (Broken g (schedule_of rows)) check_refusal x → Refuses (CheckRefused g rows) check_refusal x
  by-rule e (Err f) h = broken e h
  by-rule e (Ok v) h = none
    where
      none : (r : Refusal) → CheckRefused g rows r → ⊥
      none r (count n) = n e
      none r (broken q b) = h r b

  pub check-refuses : Refuses (CheckRefused g rows) check_refusal (checked g rows)
  check-refuses = elim (ℕ_discrete (length rows) g.tasks) [
    | yes e ↦ rw (eq-eqb (length rows) g.tasks e) (by-rule e (judged g (schedule_of rows)) (judged-refuses g (schedule_of rows)))
    | no ne ↦ rw (ne_eqb (length rows) g.tasks ne) (count ne)
  ]

  pub count-refuses : (n : ℕ) → length rows ≢ g.tasks → n ≡ g.tasks → CheckRefused g rows (check_refusal (Fault.Rows n))
  count-refuses n ne e = rw e (count ne)
