use Rattle.std.proofs.Common.{◌≡◌, ℕ, ◌+◌, ◌-◌, ◌*◌, ◌<◌, ◌≤◌, Bool, true, false, cond, not, eqb, sym, refl, ap, ◌∙◌, arith}
use native.Mathlib.Decide.{ℕ_discrete}
use Rattle.std.proofs.lemmas.Bool.{eqb-true, not-true, not-false}
use Rattle.model.specs.Graph.{Graph, Costs, Lawful}
use Rattle.model.specs.Schedule.{Feasible}
use Rattle.model.specs.Partial.{Partial, Complete, Unfinished, Free, arrival, start_on, append, whole}
use Rattle.model.specs.Reachable.{Reachable}
use Rattle.model.specs.Reachable.Reachable.{none, more}
use borrow.Author.Clash.{clash}
use Rattle.model.proofs.Range.{top-le, cond-le, put_same, put_other}
use Rattle.model.proofs.Counting.{missing, missing-put, missing-alike, missing-le}
use Rattle.model.proofs.Minimal.{Dag, minimal}
use Rattle.model.proofs.Rules.{finish-le, reachable-obeys, complete-feasible}

pub lawful-dag : {g : Graph} → Lawful g → Dag g
lawful-dag L = record { ends = L.numbers.ends; acyclic = L.acyclic }

pub delay-le : (g : Graph) → Costs g → (k : ℕ) → k < g.count → (b : Bool) → cond b 0 (g.cost k) ≤ 1000
delay-le g C k h true = omega arith
delay-le g C k h false = C k h

-- each placed task leaves room for 2,000 units more for each missing one
abbrev Early : Graph → Partial → Type 0
Early g s = (t : ℕ) → t < g.tasks → s.placed t ≡ true → s.start t + 2000 * missing s.placed g.tasks + 2000 ≤ 2000 * g.tasks

module _ (g : Graph) (L : Lawful g) (s : Partial) (E : Early g s) (t m : ℕ) (F : Free g s t) where
  next : start_on g s t m + 2000 * missing s.placed g.tasks ≤ 2000 * g.tasks
  next =
      let M : ℕ = missing s.placed g.tasks in
      let a = top-le g.count (arrival g s t m) (2000 * g.tasks - 2000 * M)
      (λ k hk. cond-le (eqb (g.to k) t) _ (2000 * g.tasks - 2000 * M) (λ q. let f = (L.numbers.ends k hk).0 in
      omega (arith, E (g.from k) f (F.2 k hk (eqb-true _ _ q)), (L.numbers.works (g.from k) f).1, delay-le g L.numbers.costs k hk (eqb (s.machine (g.from k)) m)))) in
      let b = finish-le g s m (2000 * g.tasks - 2000 * M) (λ u hu q e. omega (arith, E u hu q, (L.numbers.works u hu).1)) in
      omega (arith, missing-le s.placed g.tasks)

  appended-early : Early g (append g s t m)
  unfolding append
  appended-early u hu q =
      let v : ℕ = start_on g s t m in
      let d = missing-put s.placed t g.tasks F.0 F.1 in
      elim (ℕ_discrete u t) [
        | yes e ↦ rw (put_same s.start t v u e) (omega (arith, next))
        | no ne ↦ rw (put_other s.start t v u ne) (omega (arith, E u hu (sym (put_other s.placed t true u ne) ∙ q)))
      ]

early : (g : Graph) → Lawful g → {s : Partial} → Reachable g s → Early g s
early g L (none {s} e) = λ t h q. clash (s.placed t) q (e t h)
early g L (more {s} {c} t m R F h N X) = go (appended-early g L s (early g L R) t m F)
  where
    go : Early g (append g s t m) → Early g c
    go E u hu q =
        let p : (append g s t m).placed u ≡ true = sym (N.tasks u hu) ∙ q in
        let a = missing-alike c.placed (append g s t m).placed g.tasks N.tasks in
        omega (arith, E u hu p, N.starts u hu p)

-- the placed tasks of a reachable partial schedule start at 62,000 at the latest
pub reachable-small : (g : Graph) → Lawful g → {s : Partial} → Reachable g s → (t : ℕ) → t < g.tasks → s.placed t ≡ true → s.start t ≤ 62000
reachable-small g L R t h e = omega (arith, early g L R t h e, L.numbers.sizes.1)

-- a complete reachable partial schedule is feasible
pub reachable-feasible : (g : Graph) → Lawful g → {s : Partial} → Reachable g s → Complete g s → Feasible g (whole s)
reachable-feasible g L {s} R full = complete-feasible g (lawful-dag L) s full (reachable-obeys g (lawful-dag L) R) (λ t h. omega (arith, reachable-small g L R t h (full t h)))

-- without cycles some unplaced task is free
pub some-free : (g : Graph) → Dag g → (s : Partial) → Unfinished g s → (u : ℕ) × Free g s u
some-free g S s x =
    let T : ℕ → Bool = λ t. not (s.placed t) in
    let m = minimal g S T (λ _. false) (missing (λ _. false) g.tasks) (omega arith) x.0 x.1 (ap not x.2) (λ v q. clash false q refl) in
    (m.0, (m.1, not-true _ m.2, λ k h e. not-false _ (m.3 k h e)))

-- where a free task of a reachable partial schedule starts
pub start-reachable : (g : Graph) → Lawful g → {s : Partial} → Reachable g s → (t m : ℕ) → Free g s t → start_on g s t m ≤ 64000
start-reachable g L {s} R t m F = omega (arith, next g L s (early g L R) t m F, L.numbers.sizes.1)
