use Rattle.std.proofs.Common.{◌≡◌, ℕ, suc, ◌+◌, ◌*◌, ◌<◌, ◌≤◌, Bool, true, false, cond, not, ◌&&◌, eqb, ◌≢◌, sym, refl, ◌∙◌, inl, inr, arith}
use native.Mathlib.Decide.{ℕ_discrete}
use native.Mathlib.Nat.{mul_comm, add-mul}
use Rattle.std.proofs.Math.Nat.{lt_of_mul-lt-mul_right}
use Rattle.std.specs.Int.{div_ceil}
use Rattle.std.proofs.lemmas.Bool.{eqb-true, and_parts, not-true}
use Rattle.std.proofs.lemmas.Grind.{div_ceil_times}
use Rattle.model.specs.Range.{put, sum}
use Rattle.model.specs.Graph.{Graph}
use Rattle.model.specs.Schedule.{Schedule, makespan}
use Rattle.model.specs.Partial.{Partial, lies_on, machine_finish, Obeys}
use Rattle.model.specs.Completion.{Completion}
use Rattle.model.specs.Bounds.{IsLowerBound, work_on, placed_work, idle_time, load, load_bound}
use Rattle.model.proofs.Range.{le-top, put_same, put_other}
use Rattle.model.proofs.Rules.{finish-has, finish-le, reachable-obeys}
use Rattle.model.proofs.Starts.{lawful-dag}
use Rattle.model.proofs.Sums.{sum-le, sum-same, sum-add, sum-none, sum-swap, sum-const, sum-at, works-fit}

-- Why the load is a lower bound: what is placed on a machine fits below its finish there, and what a completion
-- adds fits between that and the makespan.
module _ (g : Graph) (s : Partial) (p : Schedule) (V : Obeys g s) (C : Completion g s p) where
  -- what the completion adds on machine m
  added : ℕ → ℕ → Bool
  added m u = not (s.placed u) && eqb (p.machine u) m

  added_work : ℕ → ℕ
  added_work m = sum g.tasks (λ u. cond (added m u) (g.work u) 0)

  placed-fits : (m : ℕ) → placed_work g s m ≤ machine_finish g s m
  placed-fits m = works-fit g.tasks (machine_finish g s m) (lies_on s m) s.start g.work
      (λ u hu q. let a = and_parts (s.placed u) _ q in finish-has g s m u hu a.0 (eqb-true _ _ a.1))
      (λ a b ha hb ne qa qb. let x = and_parts (s.placed a) _ qa in
      let y = and_parts (s.placed b) _ qb in
      V.apart a b ha hb x.0 y.0 ne (eqb-true _ _ x.1 ∙ sym (eqb-true _ _ y.1)))

  ends : (u : ℕ) → u < g.tasks → p.start u + g.work u ≤ makespan g p
  ends u hu = le-top g.tasks (λ t. p.start t + g.work t) u hu

  finish-ends : (m : ℕ) → machine_finish g s m ≤ makespan g p
  finish-ends m = finish-le g s m (makespan g p) (λ u hu q e. omega (arith, (C.keeps u hu q).1, ends u hu))

  -- what is added comes after the machine's finish: as one more task, the finish itself fits with it
  added-fits : (m : ℕ) → machine_finish g s m + added_work m ≤ makespan g p
  unfolding added added_work
  added-fits m =
      let n : ℕ = g.tasks in
      let F : ℕ = machine_finish g s m in
      let T0 : ℕ → Bool = added m in
      let T : ℕ → Bool = put T0 n true in
      let start : ℕ → ℕ = put p.start n 0 in
      let work : ℕ → ℕ = put g.work n F in
      let late : (u : ℕ) → u < n → T0 u ≡ true → F ≤ p.start u = λ u hu q. let a = and_parts (not (s.placed u)) _ q in rw (eqb-true (p.machine u) m a.1) at (C.later u hu (not-true _ a.0)) in
      let fits = works-fit (suc n) (makespan g p) T start work
      (λ u hu q. elim (ℕ_discrete u n) [
        | yes e ↦ rw (put_same p.start n 0 u e, put_same g.work n F u e) (omega (arith, finish-ends m))
        | no ne ↦ rw (put_other p.start n 0 u ne, put_other g.work n F u ne) (ends u (omega arith))
      ])
      (λ a b ha hb ne qa qb. elim (ℕ_discrete a n) [
        | yes ea ↦ let nb : b ≢ n = omega arith in
            rw (put_same p.start n 0 a ea, put_same g.work n F a ea, put_other p.start n 0 b nb) (inl (omega (arith, late b (omega arith) (sym (put_other T0 n true b nb) ∙ qb))))
        | no na ↦ elim (ℕ_discrete b n) [
          | yes eb ↦ rw (put_same p.start n 0 b eb, put_same g.work n F b eb, put_other p.start n 0 a na) (inr (omega (arith, late a (omega arith) (sym (put_other T0 n true a na) ∙ qa))))
          | no nb ↦ let x = and_parts (not (s.placed a)) _ (sym (put_other T0 n true a na) ∙ qa) in
              let y = and_parts (not (s.placed b)) _ (sym (put_other T0 n true b nb) ∙ qb) in
              rw (put_other p.start n 0 a na, put_other g.work n F a na, put_other p.start n 0 b nb, put_other g.work n F b nb)
              (C.feasible.apart a b (omega arith) (omega arith) ne (eqb-true _ _ x.1 ∙ sym (eqb-true _ _ y.1)))
        ]
      ]) in
      let same = sum-same n (λ u. cond (T u) (work u) 0) (λ u. cond (T0 u) (g.work u) 0) (λ u hu. let ne : u ≢ n = omega arith in rw (put_other T0 n true u ne, put_other g.work n F u ne)) in
      let last : cond (T n) (work n) 0 ≡ F = rw (put_same T0 n true n refl, put_same g.work n F n refl) in
      omega arith

  -- all work lies on the machines, placed or added
  work-split : sum g.tasks g.work ≡ sum g.machines (λ m. placed_work g s m + added_work m)
  unfolding added added_work
  work-split =
      let off : ℕ → ℕ → ℕ = λ m t. cond (added m t) (g.work t) 0 in
      sum-same g.tasks g.work (λ t. sum g.machines (λ m. work_on g s m t + off m t)) (λ t ht. one t ht (s.placed t) refl)
      ∙ sum-swap g.tasks g.machines (λ t m. work_on g s m t + off m t)
      ∙ sum-same g.machines (λ m. sum g.tasks (λ t. work_on g s m t + off m t)) (λ m. placed_work g s m + added_work m) (λ m hm. sum-add g.tasks (work_on g s m) (off m))
    where
      one : (t : ℕ) → t < g.tasks → (b : Bool) → s.placed t ≡ b → g.work t ≡ sum g.machines (λ m. work_on g s m t + cond (added m t) (g.work t) 0)
      one t ht true e = rw e (sym (sum-add g.machines (λ m. cond (eqb (s.machine t) m) (g.work t) 0) (λ m. 0) ∙ omega (arith, sum-at g.machines (s.machine t) (g.work t) (V.on t ht e), sum-none g.machines (λ m. 0) (λ k i. refl))))
      one t ht false e = rw e (sym (sum-add g.machines (λ m. 0) (λ m. cond (eqb (p.machine t) m) (g.work t) 0) ∙ omega (arith, sum-at g.machines (p.machine t) (g.work t) (C.feasible.on t ht), sum-none g.machines (λ m. 0) (λ k i. refl))))

  load-fits : load g s ≤ g.machines * makespan g p
  load-fits =
      let a = sum-add g.machines (λ m. placed_work g s m + added_work m) (idle_time g s) in
      let b = sum-le g.machines (λ m. placed_work g s m + added_work m + idle_time g s m) (λ m. makespan g p) (λ m hm. omega (arith, placed-fits m, added-fits m)) in
      omega (arith, work-split, sum-const g.machines (makespan g p))

-- a load that the machines have room for does not pass it on average either, rounded up
pub ceil-le : (a b y : ℕ) → 0 < b → a ≤ b * y → div_ceil a b ≤ y
ceil-le a b y h l =
    let q : div_ceil a b * b < (y + 1) * b = omega (arith, (div_ceil_times a b h).1, l, mul_comm b y, add-mul y 1 b) in
    omega (arith, lt_of_mul-lt-mul_right b q)

pub load-lower : IsLowerBound load_bound
load-lower g s p L R W C = ceil-le (load g s) g.machines (makespan g p) (L.numbers.sizes.2) (load-fits g s p (reachable-obeys g (lawful-dag L) R) C)
