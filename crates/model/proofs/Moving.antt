use Rattle.std.proofs.Common.{◌≡◌, ℕ, ◌+◌, ◌<◌, ◌≤◌, Bool, true, false, ◌≢◌, ◌⊎◌, sym, refl, ap, ◌∙◌, inl, inr, arith}
use native.Mathlib.Decide.{ℕ_discrete}
use Rattle.std.proofs.lemmas.Bool.{eqb-true}
use Rattle.model.specs.Range.{put}
use Rattle.model.specs.Graph.{Graph}
use Rattle.model.specs.Schedule.{Schedule, Feasible, makespan, delay}
use Rattle.model.specs.Partial.{Partial, Free, arrival, data_ready, start_on, append, machine_finish}
use Rattle.model.specs.Completion.{Completion}
use borrow.Author.Clash.{clash}
use Rattle.model.proofs.Range.{le-top, top-le, cond-le, put_same, put_other}
use Rattle.model.proofs.Minimal.{Dag}
use Rattle.model.proofs.Rules.{ready-has, finish-has, finish-le}
use Rattle.model.proofs.Leading.{Chosen}

-- no free task is started before its data are there
pub ready-le : (g : Graph) → Dag g → (s : Partial) (p : Schedule) → Completion g s p → (t : ℕ) → Free g s t → data_ready g s t (p.machine t) ≤ p.start t
ready-le g S s p C t F =
    top-le g.count (arrival g s t (p.machine t)) (p.start t) (λ k hk. cond-le _ _ (p.start t) (λ e. one k hk (eqb-true _ _ e)))
  where
    one : (k : ℕ) → k < g.count → g.to k ≡ t → s.start (g.from k) + g.work (g.from k) + delay g k (s.machine (g.from k)) (p.machine t) ≤ p.start t
    one k hk e =
        let K = C.keeps (g.from k) (S.ends k hk).0 (F.2 k hk e) in
        rw (← K.0, ← K.1, ← e) (C.feasible.after k hk)

-- a completion of s, and the task chosen in it
module _ (g : Graph) (S : Dag g) (s : Partial) (p : Schedule) (C : Completion g s p) (t : ℕ) (N : Chosen g p.start s.placed t) where
  pub chosen-free : Free g s t
  chosen-free = (N.low, N.unplaced, λ k hk e. go k hk e (s.placed (g.from k)) refl)
    where
      go : (k : ℕ) → k < g.count → g.to k ≡ t → (b : Bool) → s.placed (g.from k) ≡ b → s.placed (g.from k) ≡ true
      go k hk e true q = q
      go k hk e false q =
          let l = N.leads (g.from k) (S.ends k hk).0 q in
          let w = C.feasible.after k hk in
          let z : p.start (g.to k) ≡ p.start t = ap p.start e in
          absurd (N.unfed k hk e q (omega (arith, l.0, w, z)) (omega (arith, l.0, l.1, w, z)))

  -- where appending puts the task
  at : ℕ
  at = start_on g s t (p.machine t)

  at-le : at ≤ p.start t
  unfolding at
  at-le = omega (arith, ready-le g S s p C t chosen-free, C.later t N.low N.unplaced)

  -- the schedule with the task moved there
  pub moved : Schedule
  moved = record { machine = p.machine; start = put p.start t at }

  moved-le : (u : ℕ) → put p.start t at u ≤ p.start u
  moved-le u = elim (ℕ_discrete u t) [
    | yes e ↦ rw (put_same p.start t at u e, e) at-le
    | no ne ↦ rw (put_other p.start t at u ne) (omega arith)
  ]

  -- every other unplaced task of the machine still lies after it
  gap : (u : ℕ) → u < g.tasks → s.placed u ≡ false → u ≢ t → p.machine u ≡ p.machine t → at + g.work t ≤ p.start u
  gap u hu q ne e =
      let l = N.leads u hu q in
      let z = at-le in
      elim (C.feasible.apart t u N.low hu (λ x. ne (sym x)) (sym e)) [
        | inl h ↦ omega arith
        | inr h ↦ omega (arith, l.0, l.1)
      ]

  moved-feasible : Feasible g moved
  unfolding moved at
  moved-feasible = record {
    on = C.feasible.on;
    starts = λ u hu. omega (arith, moved-le u, C.feasible.starts u hu);
    after = λ k hk. elim (ℕ_discrete (g.to k) t) [
      | yes e ↦ into k hk e
      | no ne ↦ rw (put_other p.start t at (g.to k) ne) (omega (arith, moved-le (g.from k), C.feasible.after k hk))
    ];
    apart = λ a b ha hb ne e. elim (ℕ_discrete a t) [
      | yes ea ↦ rw (put_same p.start t at a ea, put_other p.start t at b (λ eb. ne (ea ∙ sym eb)), ea) (with-chosen b hb (λ eb. ne (ea ∙ sym eb)) (sym e ∙ ap p.machine ea))
      | no na ↦ elim (ℕ_discrete b t) [
        | yes eb ↦ rw (put_same p.start t at b eb, put_other p.start t at a na, eb) (flip (with-chosen a ha na (e ∙ ap p.machine eb)))
        | no nb ↦ rw (put_other p.start t at a na, put_other p.start t at b nb) (C.feasible.apart a b ha hb ne e)
      ]
    ];
  }
    where
      flip : {A B : Type 0} → A ⊎ B → B ⊎ A
      flip (inl a) = inr a
      flip (inr b) = inl b

      into : (k : ℕ) → k < g.count → g.to k ≡ t → put p.start t at (g.from k) + g.work (g.from k) + delay g k (p.machine (g.from k)) (p.machine (g.to k)) ≤ put p.start t at (g.to k)
      into k hk e =
          let pl = chosen-free.2 k hk e in
          let K = C.keeps (g.from k) (S.ends k hk).0 pl in
          let nf : g.from k ≢ t = λ z. clash (s.placed t) (sym (ap s.placed z) ∙ pl) N.unplaced in
          rw (put_same p.start t at (g.to k) e, put_other p.start t at (g.from k) nf, e, K.0, K.1) (omega (arith, ready-has g s t (p.machine t) k hk e))

      with-chosen : (u : ℕ) → u < g.tasks → u ≢ t → p.machine u ≡ p.machine t → (at + g.work t ≤ p.start u) ⊎ (p.start u + g.work u ≤ at)
      with-chosen u hu ne e = go (s.placed u) refl
        where
          go : (b : Bool) → s.placed u ≡ b → (at + g.work t ≤ p.start u) ⊎ (p.start u + g.work u ≤ at)
          go false q = inl (gap u hu q ne e)
          go true q = let K = C.keeps u hu q in inr (omega (arith, K.1, finish-has g s (p.machine t) u hu q (sym K.0 ∙ e)))

  pub moved-completion : Completion g (append g s t (p.machine t)) moved
  unfolding append moved at
  moved-completion = record {
    feasible = moved-feasible;
    keeps = λ u hu q. elim (ℕ_discrete u t) [
      | yes e ↦ (ap p.machine e ∙ sym (put_same s.machine t (p.machine t) u e), put_same p.start t at u e ∙ sym (put_same s.start t at u e))
      | no ne ↦ let K = C.keeps u hu (sym (put_other s.placed t true u ne) ∙ q) in
          (K.0 ∙ sym (put_other s.machine t (p.machine t) u ne), put_other p.start t at u ne ∙ K.1 ∙ sym (put_other s.start t at u ne))
    ];
    later = λ u hu q. elim (ℕ_discrete u t) [
      | yes e ↦ clash (put s.placed t true u) (put_same s.placed t true u e) q
      | no ne ↦ rest u hu ne (sym (put_other s.placed t true u ne) ∙ q)
    ];
  }
    where
      rest : (u : ℕ) → u < g.tasks → u ≢ t → s.placed u ≡ false → machine_finish g (append g s t (p.machine t)) (p.machine u) ≤ put p.start t at u
      rest u hu ne q = rw (put_other p.start t at u ne) (finish-le g (append g s t (p.machine t)) (p.machine u) (p.start u) (λ w hw qw mw. elim (ℕ_discrete w t) [
        | yes e ↦ rw (put_same s.start t at w e, e) (gap u hu q ne (sym mw ∙ put_same s.machine t (p.machine t) w e))
        | no nw ↦ rw (put_other s.start t at w nw) (omega (arith, C.later u hu q, finish-has g s (p.machine u) w hw (sym (put_other s.placed t true w nw) ∙ qw) (sym (put_other s.machine t (p.machine t) w nw) ∙ mw)))
      ]))

  pub moved-makespan : makespan g moved ≤ makespan g p
  unfolding moved
  moved-makespan = top-le g.tasks (λ u. put p.start t at u + g.work u) (makespan g p) (λ u hu. omega (arith, moved-le u, le-top g.tasks (λ u. p.start u + g.work u) u hu))
