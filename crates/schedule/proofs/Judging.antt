use Rattle.std.proofs.Common.{◌≡◌, ℕ, ◌+◌, ◌<◌, Bool, true, not, eqb, ltb, List, length, Some, None, Option, Ok, Err, Result, MatchResult, sym, refl, ap, subst, inl, inr, arith}
use native.Mathlib.Decide.{ℕ_discrete, dec_le, dec_lt}
use Rattle.std.specs.Option.{MatchOption}
use Rattle.std.proofs.lemmas.Bool.{eq-eqb, ne_eqb, eqb-true, eqb-false, lt-ltb, le-ltb, ltb-true, le-leb, lt-leb, and_parts, and_from, and_left, and_right, not-true, not_from_false}
use Rattle.model.specs.Range.{first, lowest}
use Rattle.model.specs.Graph.{Graph, Ends}
use Rattle.model.specs.Schedule.{Schedule, Feasible, delay, makespan}
use borrow.Author.Clash.{clash}
use Rattle.model.proofs.Range.{any-on, any-has, first-is}
use Rattle.partial.specs.declared.placement.Placement.{Placement}
use Rattle.schedule.specs.declared.fault.CheckFault.{CheckFault}
use Rattle.schedule.specs.declared.fault.CheckFault.TheVariants as Fault
use Rattle.schedule.specs.Rows.{schedule_of}
use Rattle.schedule.specs.Check.{wrong, hasty, early, collide, overlaps, wrong_row, early_task, overlapping_task, verdict, judged, checked}
use Rattle.schedule.specs.Judged.{Lowest, Nowhere, OutOfRange, TooEarly, Overlapping, Judged}

-- the lowest number that passes a test which decides P
lowest-is : (n : ℕ) (f : ℕ → Bool) (P : ℕ → Type 0) → ((t : ℕ) → f t ≡ true → P t) → ((t : ℕ) → P t → f t ≡ true) → MatchOption (lowest n f) (Nowhere n P) (Lowest n P)
lowest-is n f P to from =
    let x = first-is n f in
    elim (dec_lt (first n f) n) [
      | yes l ↦ rw (lt-ltb (first n f) n l) (l, to (first n f) (x.2 l), λ u h b. clash (f u) (from u b) (x.1 u h))
      | no l ↦ rw (le-ltb (first n f) n (omega arith)) (λ t h b. clash (f t) (from t b) (x.1 t (omega arith)))
    ]

module _ (g : Graph) (p : Schedule) where
  wrong-is : (t : ℕ) → wrong g p t ≡ true → OutOfRange g p t
  wrong-is t e = elim (dec_lt (p.machine t) g.machines) [
    | no h ↦ inl (omega arith)
    | yes h ↦ elim (dec_le (p.start t) 64000) [
      | yes k ↦ clash (wrong g p t) e (ap not (and_from _ _ (lt-ltb _ _ h) (le-leb _ _ k)))
      | no k ↦ inr (omega arith)
    ]
  ]

  is-wrong : (t : ℕ) → OutOfRange g p t → wrong g p t ≡ true
  is-wrong t (inl h) = not_from_false _ (and_left _ _ (le-ltb _ _ h))
  is-wrong t (inr h) = not_from_false _ (and_right (ltb (p.machine t) g.machines) _ (lt-leb _ _ h))

  -- where the data of transfer k arrives on the machine of task t
  abbrev Late : ℕ → ℕ → Type 0
  Late k t = p.start t < p.start (g.from k) + g.work (g.from k) + delay g k (p.machine (g.from k)) (p.machine t)

  early-is : (t : ℕ) → early g p t ≡ true → TooEarly g p t
  early-is t e =
      let x = any-has g.count (hasty g p t) e in
      let a = and_parts (eqb (g.to x.0) t) _ x.2 in
      let q = eqb-true _ _ a.0 in
      (x.0, x.1, q, subst (Late x.0) q (ltb-true _ _ a.1))

  is-early : (t : ℕ) → TooEarly g p t → early g p t ≡ true
  is-early t x = any-on g.count x.0 (hasty g p t) x.1 (and_from _ _ (eq-eqb (g.to x.0) t x.2) (lt-ltb _ _ (subst (Late x.0) (sym x.2) x.3)))

  overlap-is : (t : ℕ) → overlaps g p t ≡ true → Overlapping g p t
  overlap-is t e =
      let x = any-has g.tasks (collide g p t) e in
      let u : ℕ = x.0 in
      let a = and_parts (not (eqb u t)) _ x.2 in
      let b = and_parts (eqb (p.machine u) (p.machine t)) _ a.1 in
      let d = and_parts (ltb (p.start t) (p.start u + g.work u)) _ b.1 in
      (u, x.1, eqb-false u t (not-true _ a.0), eqb-true _ _ b.0, ltb-true _ _ d.0, ltb-true _ _ d.1)

  is-overlap : (t : ℕ) → Overlapping g p t → overlaps g p t ≡ true
  is-overlap t x = any-on g.tasks x.0 (collide g p t) x.1
      (and_from _ _ (not_from_false _ (ne_eqb x.0 t x.2)) (and_from _ _ (eq-eqb _ _ x.3) (and_from _ _ (lt-ltb _ _ x.4) (lt-ltb _ _ x.5))))

  rows-right : MatchOption (wrong_row g p) (Nowhere g.tasks (OutOfRange g p)) (Lowest g.tasks (OutOfRange g p))
  rows-right = lowest-is g.tasks (wrong g p) (OutOfRange g p) wrong-is is-wrong

  starts-right : MatchOption (early_task g p) (Nowhere g.tasks (TooEarly g p)) (Lowest g.tasks (TooEarly g p))
  starts-right = lowest-is g.tasks (early g p) (TooEarly g p) early-is is-early

  runs-right : MatchOption (overlapping_task g p) (Nowhere g.tasks (Overlapping g p)) (Lowest g.tasks (Overlapping g p))
  runs-right = lowest-is g.tasks (overlaps g p) (Overlapping g p) overlap-is is-overlap

  -- a feasible schedule breaks no rule
  in-range : Feasible g p → (t : ℕ) → t < g.tasks → OutOfRange g p t → ⊥
  in-range F t h (inl a) = omega (arith, F.on t h)
  in-range F t h (inr a) = omega (arith, F.starts t h)

  in-time : Feasible g p → (t : ℕ) → TooEarly g p t → ⊥
  in-time F t x = omega (arith, subst (Late x.0) (sym x.2) x.3, F.after x.0 x.1)

  alone : Feasible g p → (t : ℕ) → t < g.tasks → Overlapping g p t → ⊥
  alone F t h x = elim (F.apart x.0 t x.1 h x.2 x.3) [ inl a ↦ omega (arith, x.4) | inr b ↦ omega (arith, x.5) ]

  -- and what breaks none is feasible
  pub obeys-all : Ends g → Nowhere g.tasks (OutOfRange g p) → Nowhere g.tasks (TooEarly g p) → Nowhere g.tasks (Overlapping g p) → Feasible g p
  obeys-all E A B C = record {
    on = λ t h. elim (dec_lt (p.machine t) g.machines) [ yes l ↦ l | no l ↦ absurd (A t h (inl (omega arith))) ];
    starts = λ t h. elim (dec_le (p.start t) 64000) [ yes l ↦ l | no l ↦ absurd (A t h (inr (omega arith))) ];
    after = λ k h. elim (dec_le (p.start (g.from k) + g.work (g.from k) + delay g k (p.machine (g.from k)) (p.machine (g.to k))) (p.start (g.to k))) [
      | yes l ↦ l
      | no l ↦ absurd (B (g.to k) (E k h).1 (k, h, refl, omega arith))
    ];
    apart = λ x y hx hy ne q. elim (dec_le (p.start x + g.work x) (p.start y)) [
      | yes l ↦ inl l
      | no l ↦ elim (dec_le (p.start y + g.work y) (p.start x)) [
        | yes k ↦ inr k
        | no k ↦ absurd (C y hy (x, hx, ne, q, omega arith, omega arith))
      ]
    ];
  }

  -- the verdict is one of four, each with what it tells
  pub judged-cases : (P : Result ℕ CheckFault → Type 0)
      → ((t : ℕ) → Lowest g.tasks (OutOfRange g p) t → P (Err (Fault.Rows t)))
      → ((t : ℕ) → Nowhere g.tasks (OutOfRange g p) → Lowest g.tasks (TooEarly g p) t → P (Err (Fault.Early t)))
      → ((t : ℕ) → Nowhere g.tasks (OutOfRange g p) → Nowhere g.tasks (TooEarly g p) → Lowest g.tasks (Overlapping g p) t → P (Err (Fault.Overlap t)))
      → (Nowhere g.tasks (OutOfRange g p) → Nowhere g.tasks (TooEarly g p) → Nowhere g.tasks (Overlapping g p) → P (Ok (makespan g p)))
      → P (judged g p)
  judged-cases P rows early overlap passes = go (wrong_row g p) (early_task g p) (overlapping_task g p) rows-right starts-right runs-right
    where
      go : (a b c : Option ℕ)
          → MatchOption a (Nowhere g.tasks (OutOfRange g p)) (Lowest g.tasks (OutOfRange g p))
          → MatchOption b (Nowhere g.tasks (TooEarly g p)) (Lowest g.tasks (TooEarly g p))
          → MatchOption c (Nowhere g.tasks (Overlapping g p)) (Lowest g.tasks (Overlapping g p))
          → P (verdict a b c (makespan g p))
      go (Some t) b c x y z = rows t x
      go None (Some t) c x y z = early t x y
      go None None (Some t) x y z = overlap t x y z
      go None None None x y z = passes x y z

  -- a feasible schedule passes, with its makespan
  pub judged-feasible : Feasible g p → judged g p ≡ Ok (makespan g p)
  judged-feasible F = judged-cases (λ r. r ≡ Ok (makespan g p))
      (λ t x. absurd (in-range F t x.0 x.1))
      (λ t a x. absurd (in-time F t x.1))
      (λ t a b x. absurd (alone F t x.0 x.1))
      (λ a b c. refl)

-- the verdict passes exactly the feasible schedules
pub judged-decides : (g : Graph) → Ends g → (p : Schedule) → MatchResult (judged g p) (λ v. Feasible g p × (v ≡ makespan g p)) (λ _. Feasible g p → ⊥)
judged-decides g E p = judged-cases g p (λ r. MatchResult r (λ v. Feasible g p × (v ≡ makespan g p)) (λ _. Feasible g p → ⊥))
    (λ t x F. in-range g p F t x.0 x.1)
    (λ t a x F. in-time g p F t x.1)
    (λ t a b x F. alone g p F t x.0 x.1)
    (λ a b c. (obeys-all g p E a b c, refl))

-- the check is right about any rows
module _ (g : Graph) (E : Ends g) (rows : List Placement) where
  right : length rows ≡ g.tasks → Judged g rows (judged g (schedule_of rows))
  right e = judged-cases g p (Judged g rows)
      (λ t x F. in-range g p F.1 t x.0 x.1)
      (λ t a x F. in-time g p F.1 t x.1)
      (λ t a b x F. alone g p F.1 t x.0 x.1)
      (λ a b c. ((e, obeys-all g p E a b c), refl))
    where
      p : Schedule
      p = schedule_of rows

  pub check-right : Judged g rows (checked g rows)
  check-right = elim (ℕ_discrete (length rows) g.tasks) [
    | yes e ↦ rw (eq-eqb (length rows) g.tasks e) (right e)
    | no ne ↦ rw (ne_eqb (length rows) g.tasks ne) (λ F. ne F.0)
  ]
