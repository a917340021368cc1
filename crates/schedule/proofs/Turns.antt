use Rattle.std.proofs.Common.{◌≡◌, ℕ, zero, suc, ◌+◌, ◌<◌, ◌≤◌, Bool, true, false, cond, ◌&&◌, eqb, List, [], ◌∷◌, length, Some, Option, sym, refl, ap, ◌∙◌, subst, inl, inr, add-one, arith}
use native.Mathlib.Decide.{ℕ_discrete}
use Rattle.std.specs.List.{AllByRecursion}
use Rattle.std.specs.Option.{option_map}
use Rattle.std.proofs.ByRecursion.{all_shuffled}
use Rattle.bag.specs.Bag.{insert, first, rest}
use Rattle.bag.proofs.Bags.{length-insert, insert-adds, insert_comm, front}
use Rattle.bag.proofs.Pairs.{from-at-most}
use Rattle.model.specs.Range.{put}
use Rattle.model.specs.Graph.{Graph, level}
use Rattle.model.specs.Partial.{Partial, Unfinished, Free, is_free}
use borrow.Author.Clash.{clash}
use Rattle.model.proofs.Range.{put_same, put_other}
use Rattle.model.proofs.Rules.{free-test, test-free}
use Rattle.model.proofs.Starts.{lawful-dag}
use Rattle.queue.specs.declared.ready.ReadyTask.{ReadyTask}
use Rattle.queue.specs.ReadyTasks.{ready_before}
use Rattle.queue.specs.ReadyOrder.{tasks-ordered}
use Rattle.loader.specs.Meaning.{the_graph}
use Rattle.loader.proofs.Laws.{the_lawful}
use Rattle.partial.specs.Meaning.{the_partial}
use Rattle.queue.specs.ReadyBags.{ready_bag}
use Rattle.schedule.specs.declared.list.Listing.{Listing}
use Rattle.schedule.specs.ListSchedule.{next_task, Next}
use Rattle.schedule.specs.Waiting.{ready_task, tasks_where, free_tasks, released}
use Rattle.schedule.proofs.Choosing.{next-is}

module _ (g : Graph) where
  pub where-none : (f : ℕ → Bool) → tasks_where g f 0 ≡ []
  unfolding tasks_where
  where-none f = refl

  pub where-more : (f : ℕ → Bool) (n : ℕ) → tasks_where g f (n + 1) ≡ cond (f n) (insert ready_before (ready_task g n) (tasks_where g f n)) (tasks_where g f n)
  unfolding tasks_where
  where-more f n = ap (tasks_where g f) (add-one n)

  pub where-alike : (f h : ℕ → Bool) (n : ℕ) → ((t : ℕ) → t < n → f t ≡ h t) → tasks_where g f n ≡ tasks_where g h n
  unfolding tasks_where
  where-alike f h zero e = refl
  where-alike f h (suc n) e =
      let a = e n (omega arith) in
      let b = where-alike f h n (λ t l. e t (omega arith)) in
      (λ i. cond (a i) (insert ready_before (ready_task g n) (b i)) (b i))

  pub where-length : (f : ℕ → Bool) (n : ℕ) → length (tasks_where g f n) ≤ n
  unfolding tasks_where
  where-length f zero = omega arith
  where-length f (suc n) = go (f n) (where-length f n)
    where
      go : (b : Bool) → length (tasks_where g f n) ≤ n → length (cond b (insert ready_before (ready_task g n) (tasks_where g f n)) (tasks_where g f n)) ≤ suc n
      go true h = omega (arith, length-insert ready_before (ready_task g n) (tasks_where g f n))
      go false h = omega arith

  -- one task more
  pub where-put : (f : ℕ → Bool) (t n : ℕ) → t < n → f t ≡ false → insert ready_before (ready_task g t) (tasks_where g f n) ≡ tasks_where g (put f t true) n
  unfolding tasks_where
  where-put f t zero h e = absurd (omega arith)
  where-put f t (suc n) h e = elim (ℕ_discrete n t) [
    | yes q ↦ let a = where-alike f (put f t true) n (λ u l. sym (put_other f t true u (omega arith))) in
        let b : f n ≡ false = ap f q ∙ e in
        rw (put_same f t true n q, b, ← q, a)
    | no ne ↦ rw (put_other f t true n ne) (go (f n) (where-put f t n (omega arith) e))
  ]
    where
      go : (b : Bool) → insert ready_before (ready_task g t) (tasks_where g f n) ≡ tasks_where g (put f t true) n
          → insert ready_before (ready_task g t) (cond b (insert ready_before (ready_task g n) (tasks_where g f n)) (tasks_where g f n)) ≡ cond b (insert ready_before (ready_task g n) (tasks_where g (put f t true) n)) (tasks_where g (put f t true) n)
      go true ih = insert_comm ready_before tasks-ordered (ready_task g t) (ready_task g n) (tasks_where g f n) ∙ ap (insert ready_before (ready_task g n)) ih
      go false ih = ih

  where-all : (P : ReadyTask → Type 0) (f : ℕ → Bool) (n : ℕ) → ((u : ℕ) → u < n → f u ≡ true → P (ready_task g u)) → AllByRecursion P (tasks_where g f n)
  unfolding tasks_where
  where-all P f zero h = tt
  where-all P f (suc n) h = go (f n) refl (where-all P f n (λ u l e. h u (omega arith) e))
    where
      go : (b : Bool) → f n ≡ b → AllByRecursion P (tasks_where g f n) → AllByRecursion P (cond b (insert ready_before (ready_task g n) (tasks_where g f n)) (tasks_where g f n))
      go true e ih = all_shuffled P (ready_task g n ∷ tasks_where g f n) (insert ready_before (ready_task g n) (tasks_where g f n)) (insert-adds ready_before (ready_task g n) (tasks_where g f n)) (h n (omega arith) e, ih)
      go false e ih = ih

  -- the next task by the rule waits in front, before the other free tasks
  pub next-first : (s : Partial) (t : ℕ) → Next g s t → free_tasks g s ≡ ready_task g t ∷ tasks_where g (put (is_free g s) t false) g.tasks
  next-first s t N =
      let f : ℕ → Bool = put (is_free g s) t false in
      let back : (u : ℕ) → u < g.tasks → is_free g s u ≡ put f t true u = λ u l. elim (ℕ_discrete u t) [
        | yes e ↦ ap (is_free g s) e ∙ free-test g s t N.free ∙ sym (put_same f t true u e)
        | no ne ↦ sym (put_other (is_free g s) t false u ne) ∙ sym (put_other f t true u ne)
      ] in
      where-alike (is_free g s) (put f t true) g.tasks back
      ∙ sym (where-put f t g.tasks N.free.0 (put_same (is_free g s) t false t refl))
      ∙ front ready_before tasks-ordered (ready_task g t) (tasks_where g f g.tasks) (where-all (λ y. ready_before y (ready_task g t) ≡ false) f g.tasks later)
    where
      later : (u : ℕ) → u < g.tasks → put (is_free g s) t false u ≡ true → ready_before (ready_task g u) (ready_task g t) ≡ false
      later u l e = elim (ℕ_discrete u t) [
        | yes q ↦ clash (put (is_free g s) t false u) e (put_same (is_free g s) t false u q)
        | no ne ↦ let F = test-free g s u (sym (put_other (is_free g s) t false u ne) ∙ e) in
            from-at-most (level g t) u (level g u) t (elim (ℕ_discrete (level g u) (level g t)) [
              | yes q ↦ inr (q, N.lowest u F q)
              | no nq ↦ inl (omega (arith, N.greatest u F))
            ])
      ]

-- the number of the task that waits in front, if one waits
abbrev pub front_task : List ReadyTask → Option ℕ
front_task b = option_map (λ x. x.task) (first b)

-- task t was taken out, which leaves c
pub record Turn (g : Graph) (s : Partial) (t : ℕ) (c : List ReadyTask) : Type 0 where
  pub next : t ≡ next_task g s g.tasks
  pub free : Free g s t
  pub others : c ≡ tasks_where g (put (is_free g s) t false) g.tasks

module _ (l : Listing) (U : Unfinished (the_graph l.graph.now) (the_partial l.placed)) where
  abbrev g : Graph
  g = the_graph l.graph.now

  abbrev s : Partial
  s = the_partial l.placed

  N : Next g s (next_task g s g.tasks)
  N = next-is g (lawful-dag (the_lawful l.graph.now)) s U

  -- so some task waits
  pub some-waits : front_task (ready_bag l.waiting.heap) ≡ Some (next_task g s g.tasks)
  some-waits = ap front_task (l.free ∙ next-first g s (next_task g s g.tasks) N)

  -- and it is the one that is taken
  pub taken : (t : ℕ) (c : List ReadyTask) → Some t ≡ front_task (ready_bag l.waiting.heap) → c ≡ rest (ready_bag l.waiting.heap) → Turn g s t c
  taken t c e left =
      let z : Some t ≡ Some (next_task g s g.tasks) = e ∙ some-waits in
      let q : t ≡ next_task g s g.tasks = cc in
      record {
        next = q;
        free = subst (Free g s) (sym q) N.free;
        others = left ∙ ap rest (l.free ∙ next-first g s (next_task g s g.tasks) N) ∙ ap (λ (u : ℕ). tasks_where g (put (is_free g s) u false) g.tasks) (sym q);
      }

module _ (g : Graph) where
  -- what a placed task releases
  pub released-none : (s : Partial) (t : ℕ) (b : List ReadyTask) → released g s t 0 b ≡ b
  unfolding released
  released-none s t b = refl

  pub released-more : (s : Partial) (t k : ℕ) (b : List ReadyTask)
      → released g s t (k + 1) b ≡ cond (eqb (g.from k) t && is_free g s (g.to k)) (insert ready_before (ready_task g (g.to k)) (released g s t k b)) (released g s t k b)
  unfolding released
  released-more s t k b = ap (λ (n : ℕ). released g s t n b) (add-one k)

  released-grows : (s : Partial) (t k : ℕ) (b : List ReadyTask) → length (released g s t k b) ≤ length (released g s t (k + 1) b)
  released-grows s t k b = go (eqb (g.from k) t && is_free g s (g.to k)) (released-more s t k b)
    where
      go : (r : Bool) → released g s t (k + 1) b ≡ cond r (insert ready_before (ready_task g (g.to k)) (released g s t k b)) (released g s t k b) → length (released g s t k b) ≤ length (released g s t (k + 1) b)
      go true e = omega (arith, ap length e, length-insert ready_before (ready_task g (g.to k)) (released g s t k b))
      go false e = omega (arith, ap length e)

  released-longest : (s : Partial) (t k n : ℕ) (b : List ReadyTask) → k ≤ n → length (released g s t k b) ≤ length (released g s t n b)
  released-longest s t k zero b h = omega (arith, ap (λ (m : ℕ). length (released g s t m b)) (let z : k ≡ 0 = omega arith in z))
  released-longest s t k (suc n) b h = elim (ℕ_discrete k (suc n)) [
    | yes e ↦ omega (arith, ap (λ (m : ℕ). length (released g s t m b)) e)
    | no ne ↦ omega (arith, released-longest s t k n b (omega arith), released-grows s t n b, ap (λ (m : ℕ). length (released g s t m b)) (add-one n))
  ]

  -- where one more is released there is room for it
  pub released-room : (s : Partial) (t k n room : ℕ) (b : List ReadyTask) → k < n → length (released g s t n b) ≤ room → (eqb (g.from k) t && is_free g s (g.to k)) ≡ true → length (released g s t k b) < room
  released-room s t k n room b h le e =
      let more = released-more s t k b ∙ ap (λ (r : Bool). cond r (insert ready_before (ready_task g (g.to k)) (released g s t k b)) (released g s t k b)) e in
      omega (arith, ap length more, length-insert ready_before (ready_task g (g.to k)) (released g s t k b), released-longest s t (k + 1) n b (omega arith))
