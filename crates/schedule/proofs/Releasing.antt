use Rattle.std.proofs.Common.{◌≡◌, ℕ, zero, suc, ◌+◌, ◌<◌, ◌≤◌, Bool, true, false, cond, ◌&&◌, ◌||◌, eqb, ◌≢◌, ◌⊎◌, List, sym, refl, ap, ◌∙◌, inl, inr, add-one, arith}
use native.Mathlib.Decide.{ℕ_discrete}
use Rattle.std.proofs.lemmas.Bool.{eq-eqb, eqb-true, and_parts, and_from, or_right, or_cases}
use Rattle.bag.specs.Bag.{insert}
use Rattle.model.specs.Range.{any, put}
use Rattle.model.specs.Graph.{Graph, Lawful}
use Rattle.model.specs.Partial.{Partial, Free, is_free, append}
use Rattle.model.specs.NormalForm.{normal_form}
use borrow.Author.Clash.{clash}
use Rattle.std.proofs.lemmas.Bool.{false_from_ne_true}
use Rattle.model.proofs.Range.{put_same, put_other, any-on, any-has}
use Rattle.model.proofs.Rules.{free-test, test-free}
use Rattle.queue.specs.declared.ready.ReadyTask.{ReadyTask}
use Rattle.queue.specs.ReadyTasks.{ready_before}
use Rattle.schedule.specs.ListSchedule.{earliest, extend}
use Rattle.schedule.specs.Waiting.{ready_task, tasks_where, free_tasks, released}
use Rattle.schedule.proofs.Turns.{Turn, where-alike, where-put, released-none, released-more}

same_test : (a b : Bool) → (a ≡ true → b ≡ true) → (b ≡ true → a ≡ true) → a ≡ b
same_test true b f h = sym (f refl)
same_test false true f h = h refl
same_test false false f h = refl

-- task t, free in s, was placed, which gave c
module _ (g : Graph) (L : Lawful g) (s c : Partial) (t : ℕ) (F : Free g s t) (P : (u : ℕ) → u < g.tasks → c.placed u ≡ put s.placed t true u) where
  -- transfer j leads from t to u
  abbrev leads : ℕ → ℕ → Bool
  leads u j = eqb (g.from j) t && eqb (g.to j) u

  -- who waits when the first k transfers are seen: the other free tasks of s, and those that are free now and led to
  abbrev waits : ℕ → ℕ → Bool
  waits k u = put (is_free g s) t false u || (any k (leads u) && is_free g c u)

  abbrev Led : ℕ → ℕ → Type 0
  Led k u = (j : ℕ) × (j < k) × (g.from j ≡ t) × (g.to j ≡ u)

  led : (k u : ℕ) → any k (leads u) ≡ true → Led k u
  led k u e =
      let x = any-has k (leads u) e in
      let p = and_parts (eqb (g.from x.0) t) (eqb (g.to x.0) u) x.2 in
      (x.0, x.1, eqb-true _ _ p.0, eqb-true _ _ p.1)

  abbrev Old : ℕ → Type 0
  Old u = (u ≢ t) × Free g s u

  old : (u : ℕ) → put (is_free g s) t false u ≡ true → Old u
  old u e = elim (ℕ_discrete u t) [
    | yes q ↦ clash (put (is_free g s) t false u) e (put_same (is_free g s) t false u q)
    | no n ↦ (n, test-free g s u (sym (put_other (is_free g s) t false u n) ∙ e))
  ]

  from_old : (k u : ℕ) → Old u → waits k u ≡ true
  from_old k u o = rw (put_other (is_free g s) t false u o.0 ∙ free-test g s u o.1)

  from-led : (k u : ℕ) → Led k u → is_free g c u ≡ true → waits k u ≡ true
  from-led k u x e =
      let a : any k (leads u) ≡ true = any-on k x.0 (leads u) x.1 (and_from _ _ (eq-eqb _ _ x.2) (eq-eqb _ _ x.3)) in
      or_right (put (is_free g s) t false u) (any k (leads u) && is_free g c u) (and_from _ _ a e)

  parts : (k u : ℕ) → waits k u ≡ true → Old u ⊎ (Led k u × (is_free g c u ≡ true))
  parts k u e = elim (or_cases (put (is_free g s) t false u) (any k (leads u) && is_free g c u) e) [
    | inl a ↦ inl (old u a)
    | inr b ↦ let p = and_parts (any k (leads u)) (is_free g c u) b in inr (led k u p.0, p.1)
  ]

  longer : (k u : ℕ) → waits k u ≡ true → waits (k + 1) u ≡ true
  longer k u e = elim (parts k u e) [ inl o ↦ from_old (k + 1) u o | inr x ↦ from-led (k + 1) u (x.0.0, omega (arith, x.0.1), x.0.2, x.0.3) x.1 ]

  -- a transfer that releases nothing
  idle : (k : ℕ) → (eqb (g.from k) t && is_free g c (g.to k)) ≡ false → (u : ℕ) → waits (k + 1) u ≡ waits k u
  idle k e u = same_test (waits (k + 1) u) (waits k u) (λ h. elim (parts (k + 1) u h) [
    | inl o ↦ from_old k u o
    | inr x ↦ elim (ℕ_discrete x.0.0 k) [
      | yes q ↦ clash (eqb (g.from k) t && is_free g c (g.to k)) (and_from _ _ (eq-eqb _ _ (sym (ap g.from q) ∙ x.0.2)) (ap (is_free g c) (sym (ap g.to q) ∙ x.0.3) ∙ x.1)) e
      | no n ↦ from-led k u (x.0.0, omega (arith, x.0.1), x.0.2, x.0.3) x.1
    ]
  ]) (longer k u)

  -- a transfer that releases its task: it did not wait before
  module _ (k : ℕ) (h : k < g.count) (e : (eqb (g.from k) t && is_free g c (g.to k)) ≡ true) where
    from-t : g.from k ≡ t
    from-t = eqb-true _ _ (and_parts (eqb (g.from k) t) (is_free g c (g.to k)) e).0

    now-free : is_free g c (g.to k) ≡ true
    now-free = (and_parts (eqb (g.from k) t) (is_free g c (g.to k)) e).1

    new : waits k (g.to k) ≡ false
    new = false_from_ne_true (waits k (g.to k)) (λ w. elim (parts k (g.to k) w) [
      | inl o ↦ clash (s.placed t) (sym (ap s.placed from-t) ∙ o.1.2 k h refl) F.1
      | inr x ↦ L.numbers.pairs x.0.0 k (x.0.1, h, x.0.2 ∙ sym from-t, x.0.3)
    ])

    releases : (u : ℕ) → waits (k + 1) u ≡ put (waits k) (g.to k) true u
    releases u = elim (ℕ_discrete u (g.to k)) [
      | yes q ↦ from-led (k + 1) u (k, omega arith, from-t, sym q) (ap (is_free g c) q ∙ now-free) ∙ sym (put_same (waits k) (g.to k) true u q)
      | no n ↦ same_test (waits (k + 1) u) (waits k u) (λ w. elim (parts (k + 1) u w) [
        | inl o ↦ from_old k u o
        | inr x ↦ elim (ℕ_discrete x.0.0 k) [
          | yes q ↦ absurd (n (sym x.0.3 ∙ ap g.to q))
          | no m ↦ from-led k u (x.0.0, omega (arith, x.0.1), x.0.2, x.0.3) x.1
        ]
      ]) (longer k u) ∙ sym (put_other (waits k) (g.to k) true u n)
    ]

  step : (k : ℕ) → k < g.count → (r : Bool) → (eqb (g.from k) t && is_free g c (g.to k)) ≡ r
      → cond r (insert ready_before (ready_task g (g.to k)) (tasks_where g (waits k) g.tasks)) (tasks_where g (waits k) g.tasks) ≡ tasks_where g (waits (k + 1)) g.tasks
  step k h true e = where-put g (waits k) (g.to k) g.tasks (L.numbers.ends k h).1 (new k h e) ∙ where-alike g (put (waits k) (g.to k) true) (waits (k + 1)) g.tasks (λ u l. sym (releases k h e u))
  step k h false e = where-alike g (waits k) (waits (k + 1)) g.tasks (λ u l. sym (idle k e u))

  begins : (u : ℕ) → put (is_free g s) t false u ≡ waits 0 u
  begins u = same_test (put (is_free g s) t false u) (waits 0 u) (λ e. from_old 0 u (old u e)) (λ w. elim (parts 0 u w) [
    | inl o ↦ put_other (is_free g s) t false u o.0 ∙ free-test g s u o.1
    | inr x ↦ absurd (omega (arith, x.0.1))
  ])

  so_far : (k : ℕ) → k ≤ g.count → released g c t k (tasks_where g (put (is_free g s) t false) g.tasks) ≡ tasks_where g (waits k) g.tasks
  so_far zero h = released-none g c t (tasks_where g (put (is_free g s) t false) g.tasks) ∙ where-alike g (put (is_free g s) t false) (waits 0) g.tasks (λ u l. begins u)
  so_far (suc k) h =
      let b : List ReadyTask = tasks_where g (put (is_free g s) t false) g.tasks in
      let r : Bool = eqb (g.from k) t && is_free g c (g.to k) in
      let ih = so_far k (omega arith) in
      ap (λ (n : ℕ). released g c t n b) (sym (add-one k)) ∙ released-more g c t k b ∙ (λ i. cond r (insert ready_before (ready_task g (g.to k)) (ih i)) (ih i)) ∙ step k (omega arith) r refl
      ∙ ap (λ (n : ℕ). tasks_where g (waits n) g.tasks) (add-one k)

  placed-t : c.placed t ≡ true
  placed-t = P t F.0 ∙ put_same s.placed t true t refl

  still-free : (u : ℕ) → Old u → Free g c u
  still-free u o = (
    o.1.0,
    P u o.1.0 ∙ put_other s.placed t true u o.0 ∙ o.1.1,
    λ k h e. P (g.from k) (L.numbers.ends k h).0 ∙ elim (ℕ_discrete (g.from k) t) [ yes q ↦ put_same s.placed t true (g.from k) q | no n ↦ put_other s.placed t true (g.from k) n ∙ o.1.2 k h e ],
  )

  -- who is free now was free, or a transfer from t leads to it
  was_free : (u : ℕ) → Free g c u → (r : Bool) → any g.count (leads u) ≡ r → waits g.count u ≡ true
  was_free u G true e = from-led g.count u (led g.count u e) (free-test g c u G)
  was_free u G false e =
      let n : u ≢ t = λ q. clash (c.placed u) (ap c.placed q ∙ placed-t) G.1 in
      from_old g.count u (
        n,
        (
          G.0,
          sym (put_other s.placed t true u n) ∙ sym (P u G.0) ∙ G.1,
          λ k h z. elim (ℕ_discrete (g.from k) t) [
            | yes q ↦ clash (any g.count (leads u)) (any-on g.count k (leads u) h (and_from _ _ (eq-eqb _ _ q) (eq-eqb _ _ z))) e
            | no m ↦ sym (put_other s.placed t true (g.from k) m) ∙ sym (P (g.from k) (L.numbers.ends k h).0) ∙ G.2 k h z
          ],
        ),
      )

  -- the free tasks wait again
  pub releases-all : released g c t g.count (tasks_where g (put (is_free g s) t false) g.tasks) ≡ free_tasks g c
  releases-all = so_far g.count (omega arith) ∙ where-alike g (waits g.count) (is_free g c) g.tasks (λ u l. same_test (waits g.count u) (is_free g c u)
      (λ w. elim (parts g.count u w) [ inl o ↦ free-test g c u (still-free u o) | inr x ↦ x.1 ])
      (λ e. was_free u (test-free g c u e) (any g.count (leads u)) refl))

-- the tasks that a child places
pub child-placed : (g : Graph) (s c : Partial) (t m : ℕ) → c ≡ normal_form g (append g s t m) → (u : ℕ) → u < g.tasks → c.placed u ≡ put s.placed t true u
unfolding normal_form append
child-placed g s c t m e u h = ap (λ (q : Partial). q.placed u) e

-- the first of those that wait is taken out and placed, and those that it releases wait: again the free tasks wait
pub waits-again : (g : Graph) → Lawful g → (s q : Partial) (c : List ReadyTask) (t : ℕ)
    → Turn g s t c → q ≡ extend g s t → released g q t g.count c ≡ free_tasks g q
waits-again g L s q c t turn e = ap (released g q t g.count) turn.others ∙ releases-all g L s q t turn.free (child-placed g s q t (earliest g s t g.machines) e)
