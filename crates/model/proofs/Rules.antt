use Rattle.std.proofs.Common.{◌≡◌, ℕ, ◌+◌, ◌<◌, ◌≤◌, max, Bool, true, false, not, ◌||◌, eqb, ltb, ◌≢◌, sym, refl, ap, ◌∙◌, inl, inr, arith}
use native.Mathlib.Decide.{ℕ_discrete}
use Rattle.std.proofs.lemmas.Bool.{eq-eqb, ne_eqb, eqb-true, lt-ltb, ltb-true, and_from, and_parts, and_right, not-true, not_from_false, not_from_true}
use Rattle.model.specs.Range.{put}
use Rattle.model.specs.Graph.{Graph}
use Rattle.model.specs.Schedule.{Feasible, delay}
use Rattle.model.specs.Partial.{Partial, Complete, Free, fed, is_ready, is_free, Obeys, lies_on, finish_on, machine_finish, arrival, data_ready, append, whole}
use Rattle.model.specs.NormalForm.{Renamed, normal_form}
use Rattle.model.specs.Reachable.{Reachable, Empty}
use Rattle.model.specs.Reachable.Reachable.{none, more}
use borrow.Author.Clash.{clash}
use Rattle.model.proofs.Range.{le-top, top-le, cond-le, every-all, every-from, every-off, put_same, put_other}
use Rattle.model.proofs.Minimal.{Dag}
use Rattle.model.proofs.Naming.{form-renamed, form-normal}

-- the test for a free task decides it
ready-test : (g : Graph) (s : Partial) (t : ℕ) → Free g s t → is_ready g s t ≡ true
ready-test g s t F =
    and_from _ _ (not_from_false _ F.1) (every-from g.count (fed g s t) (λ k hk. elim (ℕ_discrete (g.to k) t) [
      | yes e ↦ rw (eq-eqb (g.to k) t e, F.2 k hk e)
      | no ne ↦ rw (ne_eqb (g.to k) t ne)
    ]))

pub free-test : (g : Graph) (s : Partial) (t : ℕ) → Free g s t → is_free g s t ≡ true
free-test g s t F = and_from _ _ (lt-ltb t g.tasks F.0) (ready-test g s t F)

pub test-free : (g : Graph) (s : Partial) (t : ℕ) → is_free g s t ≡ true → Free g s t
test-free g s t e =
    let p = and_parts (ltb t g.tasks) _ e in
    let q = and_parts (not (s.placed t)) _ p.1 in
    (ltb-true t g.tasks p.0, not-true _ q.0, λ k hk z. or-other _ _ (every-all g.count (fed g s t) q.1 k hk) (not_from_true _ (eq-eqb (g.to k) t z)))
  where
    or-other : (a b : Bool) → (a || b) ≡ true → a ≡ false → b ≡ true
    or-other true b p q = clash true refl q
    or-other false b p q = p

-- one transfer that does not let a task be free is enough
pub ready-off : (g : Graph) (s : Partial) (t k : ℕ) → k < g.count → fed g s t k ≡ false → is_ready g s t ≡ false
ready-off g s t k h e = and_right (not (s.placed t)) _ (every-off g.count k (fed g s t) h e)

pub ready-has : (g : Graph) (s : Partial) (t m k : ℕ) → k < g.count → g.to k ≡ t → s.start (g.from k) + g.work (g.from k) + delay g k (s.machine (g.from k)) m ≤ data_ready g s t m
ready-has g s t m k hk e =
    let q : arrival g s t m k ≡ s.start (g.from k) + g.work (g.from k) + delay g k (s.machine (g.from k)) m = rw (eq-eqb (g.to k) t e) in
    omega (arith, le-top g.count (arrival g s t m) k hk)

pub finish-has : (g : Graph) (s : Partial) (m u : ℕ) → u < g.tasks → s.placed u ≡ true → s.machine u ≡ m → s.start u + g.work u ≤ machine_finish g s m
finish-has g s m u hu hp hm =
    let e : finish_on g s m u ≡ s.start u + g.work u = rw (hp, eq-eqb (s.machine u) m hm) in
    omega (arith, le-top g.tasks (finish_on g s m) u hu)

pub finish-le : (g : Graph) (s : Partial) (m y : ℕ) → ((u : ℕ) → u < g.tasks → s.placed u ≡ true → s.machine u ≡ m → s.start u + g.work u ≤ y) → machine_finish g s m ≤ y
finish-le g s m y h =
    top-le g.tasks (finish_on g s m) y
    (λ u hu. cond-le (lies_on s m u) (s.start u + g.work u) y
    (λ e. h u hu (and_parts _ _ e).0 (eqb-true _ _ (and_parts (s.placed u) _ e).1)))

empty-obeys : (g : Graph) → Dag g → (s : Partial) → Empty g s → Obeys g s
empty-obeys g S s E = record {
  on = λ t h q. clash (s.placed t) q (E t h);
  before = λ k h q. clash (s.placed (g.to k)) q (E (g.to k) (S.ends k h).1);
  after = λ k h q. clash (s.placed (g.to k)) q (E (g.to k) (S.ends k h).1);
  apart = λ a b ha hb qa. clash (s.placed a) qa (E a ha);
}

module _ (g : Graph) (s : Partial) (t m : ℕ) (V : Obeys g s) (F : Free g s t) (hm : m < g.machines) where
  at : ℕ
  at = max (data_ready g s t m) (machine_finish g s m)

  -- placed before, if placed and not t
  was : (u : ℕ) → u ≢ t → put s.placed t true u ≡ true → s.placed u ≡ true
  was u ne q = sym (put_other s.placed t true u ne) ∙ q

  after-all : (u : ℕ) → u < g.tasks → s.placed u ≡ true → s.machine u ≡ m → s.start u + g.work u ≤ at
  unfolding at
  after-all u hu q e = omega (arith, finish-has g s m u hu q e)

  pub append-obeys : Obeys g (append g s t m)
  unfolding append at
  append-obeys = record {
    on = λ u hu q. elim (ℕ_discrete u t) [
      | yes e ↦ rw (put_same s.machine t m u e) hm
      | no ne ↦ rw (put_other s.machine t m u ne) (V.on u hu (was u ne q))
    ];
    before = before;
    after = λ k hk q. elim (ℕ_discrete (g.to k) t) [
      | yes e ↦ let pl = F.2 k hk e in
          let nf = other k pl in
          rw (put_same s.start t at (g.to k) e, put_same s.machine t m (g.to k) e, put_other s.start t at (g.from k) nf, put_other s.machine t m (g.from k) nf) (omega (arith, ready-has g s t m k hk e))
      | no ne ↦ let w = was (g.to k) ne q in
          let nf = other k (V.before k hk w) in
          rw (put_other s.start t at (g.to k) ne, put_other s.machine t m (g.to k) ne, put_other s.start t at (g.from k) nf, put_other s.machine t m (g.from k) nf) (V.after k hk w)
    ];
    apart = λ a b ha hb qa qb ne e. elim (ℕ_discrete a t) [
      | yes ea ↦ let nb : b ≢ t = λ eb. ne (ea ∙ sym eb) in
          rw (put_same s.start t at a ea, put_other s.start t at b nb)
          (inr (after-all b hb (was b nb qb) (sym (put_other s.machine t m b nb) ∙ sym e ∙ put_same s.machine t m a ea)))
      | no na ↦ elim (ℕ_discrete b t) [
        | yes eb ↦ rw (put_same s.start t at b eb, put_other s.start t at a na)
            (inl (after-all a ha (was a na qa) (sym (put_other s.machine t m a na) ∙ e ∙ put_same s.machine t m b eb)))
        | no nb ↦ rw (put_other s.start t at a na, put_other s.start t at b nb)
            (V.apart a b ha hb (was a na qa) (was b nb qb) ne (sym (put_other s.machine t m a na) ∙ e ∙ put_other s.machine t m b nb))
      ]
    ];
  }
    where
      other : (k : ℕ) → s.placed (g.from k) ≡ true → g.from k ≢ t
      other k q z = clash (s.placed t) (sym (ap s.placed z) ∙ q) F.1

      before : (k : ℕ) → k < g.count → put s.placed t true (g.to k) ≡ true → put s.placed t true (g.from k) ≡ true
      before k hk q = elim (ℕ_discrete (g.from k) t) [
        | yes e ↦ put_same s.placed t true (g.from k) e
        | no nf ↦ put_other s.placed t true (g.from k) nf ∙ elim (ℕ_discrete (g.to k) t) [ yes e ↦ F.2 k hk e | no ne ↦ V.before k hk (was (g.to k) ne q) ]
      ]

renamed-obeys : (g : Graph) → Dag g → (s c : Partial) → Renamed g s c → Obeys g s → Obeys g c
renamed-obeys g S s c R V = record {
  on = λ t h q. R.low t h (sym (R.tasks t h) ∙ q);
  before = λ k h q. R.tasks (g.from k) (S.ends k h).0 ∙ V.before k h (sym (R.tasks (g.to k) (S.ends k h).1) ∙ q);
  after = λ k h q.
      let e = S.ends k h in
      let qt : s.placed (g.to k) ≡ true = sym (R.tasks (g.to k) e.1) ∙ q in
      let qf = V.before k h qt in
      rw (same (g.from k) (g.to k) e.0 e.1 qf qt) (omega (arith, R.starts (g.from k) e.0 qf, R.starts (g.to k) e.1 qt, V.after k h qt));
  apart = λ a b ha hb qa qb ne e.
      let pa : s.placed a ≡ true = sym (R.tasks a ha) ∙ qa in
      let pb : s.placed b ≡ true = sym (R.tasks b hb) ∙ qb in
      rw (R.starts a ha pa, R.starts b hb pb) (V.apart a b ha hb pa pb ne ((R.joint a b ha hb pa pb).1 e));
}
  where
    same : (a b : ℕ) → a < g.tasks → b < g.tasks → s.placed a ≡ true → s.placed b ≡ true → eqb (c.machine a) (c.machine b) ≡ eqb (s.machine a) (s.machine b)
    same a b ha hb pa pb = elim (ℕ_discrete (s.machine a) (s.machine b)) [
      | yes e ↦ eq-eqb _ _ ((R.joint a b ha hb pa pb).0 e) ∙ sym (eq-eqb _ _ e)
      | no ne ↦ ne_eqb _ _ (λ e. ne ((R.joint a b ha hb pa pb).1 e)) ∙ sym (ne_eqb _ _ ne)
    ]

pub reachable-obeys : (g : Graph) → Dag g → {s : Partial} → Reachable g s → Obeys g s
reachable-obeys g S (none {s} e) = empty-obeys g S s e
reachable-obeys g S (more {s} {c} t m r F h R N) = let V = reachable-obeys g S r in renamed-obeys g S (append g s t m) c R (append-obeys g s t m V F h)

-- a complete partial schedule that obeys the rules is feasible, if its starts are small
pub complete-feasible : (g : Graph) → Dag g → (s : Partial) → Complete g s → Obeys g s → ((t : ℕ) → t < g.tasks → s.start t ≤ 64000) → Feasible g (whole s)
complete-feasible g S s full V small = record {
  on = λ t h. V.on t h (full t h);
  starts = small;
  after = λ k h. V.after k h (full (g.to k) (S.ends k h).1);
  apart = λ a b ha hb ne e. V.apart a b ha hb (full a ha) (full b hb) ne e;
}

-- a child of a reachable partial schedule is reachable
pub child-reachable : (g : Graph) → Dag g → (s : Partial) (t m : ℕ) → Reachable g s → Free g s t → m < g.machines → Reachable g (normal_form g (append g s t m))
child-reachable g S s t m R F h =
    let W = append-obeys g s t m (reachable-obeys g S R) F h in
    more t m R F h (form-renamed g (append g s t m) W.on) (form-normal g (append g s t m) W.on)
