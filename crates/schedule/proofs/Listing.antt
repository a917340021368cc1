use Rattle.std.proofs.Common.{◌≡◌, ℕ, zero, suc, ◌+◌, ◌<◌, ◌≤◌, Some, None, Option, sym, refl, ap, subst, add-one, arith}
use native.Mathlib.Decide.{dec_le}
use Rattle.std.specs.Option.{IsSome}
use Rattle.std.proofs.lemmas.Grind.{not_there}
use Rattle.model.specs.Graph.{Graph, Lawful}
use Rattle.model.specs.Schedule.{Feasible}
use Rattle.model.specs.Partial.{Partial, nothing, Free, Complete, Unfinished, start_on, append, whole}
use Rattle.model.specs.NormalForm.{normal_form}
use Rattle.model.specs.Reachable.{Reachable}
use Rattle.model.specs.Reachable.Reachable.{none as no-append}
use Rattle.model.proofs.Counting.{missing, missing-put, all-missing, missing-find, missing-none}
use Rattle.model.proofs.Rules.{child-reachable}
use Rattle.model.proofs.Starts.{lawful-dag, start-reachable, reachable-feasible}
use Rattle.partial.specs.declared.partial.PartialSchedule.{PartialSchedule}
use Rattle.partial.specs.Meaning.{Appendable, Answers}
use Rattle.schedule.specs.ListSchedule.{next_task, earliest, extend, listed, ByRule}
use Rattle.schedule.specs.ListSchedule.ByRule.{none, more}
use Rattle.schedule.proofs.Choosing.{next-is, earliest-is}

-- what holds of the list schedule after k tasks
pub record Facts (g : Graph) (k : ℕ) (s : Partial) : Type 0 where
  pub reachable : Reachable g s
  pub rest : missing s.placed g.tasks + k ≡ g.tasks
  pub rule : ByRule g k s

pub facts-open : (g : Graph) (k : ℕ) (s : Partial) → Facts g k s → k < g.tasks → Unfinished g s
facts-open g k s F h = missing-find s.placed g.tasks (omega (arith, F.rest))

module _ (g : Graph) (L : Lawful g) where
  facts-more : (k : ℕ) (s : Partial) → Facts g k s → k < g.tasks → Facts g (suc k) (extend g s (next_task g s g.tasks))
  unfolding normal_form append
  facts-more k s F h =
      let t = next_task g s g.tasks in
      let m = earliest g s t g.machines in
      let N = next-is g (lawful-dag L) s (facts-open g k s F h) in
      let E = earliest-is g s t L.numbers.sizes.2 in
      record {
        reachable = child-reachable g (lawful-dag L) s t m F.reachable N.free E.low;
        rest = omega (arith, F.rest, missing-put s.placed t g.tasks N.free.0 N.free.1);
        rule = more t m F.rule N E;
      }

  pub facts : (k : ℕ) → k ≤ g.tasks → Facts g k (listed g k)
  unfolding listed
  facts zero h = record { reachable = no-append (λ t l. refl); rest = omega (arith, all-missing g.tasks); rule = none }
  facts (suc k) h = facts-more k (listed g k) (facts k (omega arith)) (omega arith)

  -- and of the whole
  pub listed-facts : (s : Partial) → s ≡ listed g g.tasks → Facts g g.tasks s
  listed-facts s e = subst (Facts g g.tasks) (sym e) (facts g.tasks (omega arith))

  pub facts-complete : (s : Partial) → Facts g g.tasks s → Complete g s
  facts-complete s F t h = missing-none s.placed g.tasks t (omega (arith, F.rest)) h

  pub facts-feasible : (s : Partial) → Facts g g.tasks s → Feasible g (whole s)
  facts-feasible s F = reachable-feasible g L F.reachable (facts-complete s F)

pub listed_more : (g : Graph) (k : ℕ) → listed g (k + 1) ≡ extend g (listed g k) (next_task g (listed g k) g.tasks)
unfolding listed
listed_more g k = ap (listed g) (add-one k)

pub listed-none : (g : Graph) → listed g 0 ≡ nothing
unfolding listed
listed-none g = refl

-- a free task of a reachable partial schedule starts early enough
pub starts-low : (g : Graph) → Lawful g → (s : Partial) → ∥ Reachable g s ∥₁ → (t m : ℕ) → Free g s t → start_on g s t m ≤ 64000
starts-low g L s R t m F = elim (dec_le (start_on g s t m) 64000) [
  | yes l ↦ l
  | no n ↦ absurd (not_there R (λ r. n (start-reachable g L r t m F)))
]

-- so that it can always be appended
pub child-given : (g : Graph) (s : Partial) (t m : ℕ) (c : Partial) (o : Option PartialSchedule) → Answers g s t m c o → Appendable g s t m → IsSome o
child-given g s t m c None a h = absurd (a h)
child-given g s t m c (Some r) a h = refl
