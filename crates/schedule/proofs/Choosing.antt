use Rattle.std.proofs.Common.{◌≡◌, ℕ, zero, suc, ◌+◌, ◌<◌, ◌≤◌, max, Bool, true, false, cond, ◌&&◌, ◌||◌, eqb, ltb, ◌⊎◌, get_or, Some, None, Option, Ordering, sym, refl, ap, ◌∙◌, subst, inl, inr, add-one, arith}
use Rattle.std.specs.List.{fold, reduce, filter, range_with_len}
use Rattle.std.specs.Option.{IsSomeAnd, unwrap_or}
use Rattle.std.specs.declared.cmp.Reverse.{Reverse}
use Rattle.std.specs.Ordering.{min_by_ordering, nat_cmp}
use Rattle.std.specs.declared.cmp.Ordering.TheVariants.{Less, Equal, Greater}
use native.Mathlib.Decide.{ℕ_discrete, dec_lt}
use Rattle.std.proofs.lemmas.Bool.{eq-eqb, ne_eqb, lt-ltb, le-ltb}
use Rattle.model.specs.Graph.{Graph, level}
use Rattle.model.specs.Partial.{Partial, Unfinished, Free, is_free, start_on}
use borrow.Author.Clash.{clash}
use Rattle.model.proofs.Minimal.{Dag}
use Rattle.model.proofs.Rules.{free-test, test-free}
use Rattle.model.proofs.Starts.{some-free}
use Rattle.loader.specs.declared.graph.TaskGraph.{TaskGraph}
use Rattle.loader.specs.Meaning.{the_graph, levels_of}
use Rattle.loader.proofs.Laws.{levels-are}
use Rattle.schedule.specs.ListSchedule.{next_task, next_free, earliest, Next, Earliest}
use Rattle.schedule.proofs.Picking.{pick, nat-picks, fold-below, best-if, best, reduce-filtered}

-- what a pick so far is: none, and no task below n is free, or the best of them
abbrev PickedTask : Graph → Partial → ℕ → ℕ → Type 0
PickedTask g s n b = ((b ≡ g.tasks) × ((u : ℕ) → u < n → is_free g s u ≡ false))
    ⊎ ((b < n) × (is_free g s b ≡ true) × ((u : ℕ) → u < n → is_free g s u ≡ true → level g u ≤ level g b) × ((u : ℕ) → u < n → is_free g s u ≡ true → level g u ≡ level g b → b ≤ u))

picked-task : (g : Graph) (s : Partial) (n : ℕ) → n ≤ g.tasks → PickedTask g s n (next_task g s n)
unfolding next_task
picked-task g s zero h = inl (refl, λ u l. absurd (omega arith))
picked-task g s (suc n) h = go (is_free g s n) refl (next_task g s n) (picked-task g s n (omega arith))
  where
    same : (u : ℕ) → u ≡ n → (P : ℕ → Type 0) → P n → P u
    same u e P p = subst P (sym e) p

    go : (f : Bool) → is_free g s n ≡ f → (b : ℕ) → PickedTask g s n b → PickedTask g s (suc n) (cond (is_free g s n && (eqb b g.tasks || ltb (level g b) (level g n))) n b)
    go false e b (inl x) = rw e (inl (x.0, λ u l. elim (ℕ_discrete u n) [ yes q ↦ rw q e | no q ↦ x.1 u (omega arith) ]))
    go false e b (inr x) = rw e (inr (
      omega (arith, x.0),
      x.1,
      (λ u l f. elim (ℕ_discrete u n) [ yes q ↦ clash (is_free g s n) (sym (ap (is_free g s) q) ∙ f) e | no q ↦ x.2 u (omega arith) f ]),
      (λ u l f d. elim (ℕ_discrete u n) [ yes q ↦ clash (is_free g s n) (sym (ap (is_free g s) q) ∙ f) e | no q ↦ x.3 u (omega arith) f d ]),
    ))
    go true e b (inl x) = rw (e, eq-eqb b g.tasks x.0) (inr (
      omega arith,
      e,
      (λ u l f. elim (ℕ_discrete u n) [ yes q ↦ omega (arith, ap (level g) q) | no q ↦ clash (is_free g s u) f (x.1 u (omega arith)) ]),
      (λ u l f d. elim (ℕ_discrete u n) [ yes q ↦ omega arith | no q ↦ clash (is_free g s u) f (x.1 u (omega arith)) ]),
    ))
    go true e b (inr x) = rw (e, ne_eqb b g.tasks (omega (arith, x.0))) (elim (dec_lt (level g b) (level g n)) [
      | yes lt ↦ rw (lt-ltb (level g b) (level g n) lt) (inr (
        omega arith,
        e,
        (λ u l f. elim (ℕ_discrete u n) [ yes q ↦ omega (arith, ap (level g) q) | no q ↦ omega (arith, x.2 u (omega arith) f) ]),
        (λ u l f d. elim (ℕ_discrete u n) [ yes q ↦ omega arith | no q ↦ absurd (omega (arith, x.2 u (omega arith) f)) ]),
      ))
      | no ge ↦ rw (le-ltb (level g b) (level g n) (omega (arith, ge))) (inr (
        omega (arith, x.0),
        x.1,
        (λ u l f. elim (ℕ_discrete u n) [ yes q ↦ omega (arith, ap (level g) q) | no q ↦ x.2 u (omega arith) f ]),
        (λ u l f d. elim (ℕ_discrete u n) [ yes q ↦ omega (arith, x.0) | no q ↦ x.3 u (omega arith) f d ]),
      ))
    ])

pub next_le : (g : Graph) (s : Partial) (n : ℕ) → n ≤ g.tasks → next_task g s n ≤ g.tasks
next_le g s n h = elim (picked-task g s n h) [ inl x ↦ omega (arith, x.0) | inr x ↦ omega (arith, x.0) ]

pub next-is : (g : Graph) → Dag g → (s : Partial) → Unfinished g s → Next g s (next_task g s g.tasks)
next-is g S s x = go (some-free g S s x) (picked-task g s g.tasks (omega arith))
  where
    go : ((u : ℕ) × Free g s u) → PickedTask g s g.tasks (next_task g s g.tasks) → Next g s (next_task g s g.tasks)
    go f (inl y) = clash (is_free g s f.0) (free-test g s f.0 f.1) (y.1 f.0 f.1.0)
    go f (inr y) = record {
      free = test-free g s (next_task g s g.tasks) y.1;
      greatest = λ u F. y.2 u F.0 (free-test g s u F);
      lowest = λ u F. y.3 u F.0 (free-test g s u F);
    }

abbrev PickedMachine : Graph → Partial → ℕ → ℕ → ℕ → Type 0
PickedMachine g s t n b = (b < max n 1) × ((j : ℕ) → j < n → start_on g s t b ≤ start_on g s t j) × ((j : ℕ) → j < n → start_on g s t j ≡ start_on g s t b → b ≤ j)

picked-machine : (g : Graph) (s : Partial) (t n : ℕ) → PickedMachine g s t n (earliest g s t n)
unfolding earliest
picked-machine g s t zero = (omega arith, (λ j h. absurd (omega arith)), (λ j h. absurd (omega arith)))
picked-machine g s t (suc n) = go (earliest g s t n) (picked-machine g s t n)
  where
    go : (b : ℕ) → PickedMachine g s t n b → PickedMachine g s t (suc n) (cond (ltb (start_on g s t n) (start_on g s t b)) n b)
    go b x = elim (dec_lt (start_on g s t n) (start_on g s t b)) [
      | yes l ↦ rw (lt-ltb (start_on g s t n) (start_on g s t b) l) (
        omega arith,
        (λ j h. elim (ℕ_discrete j n) [ yes q ↦ omega (arith, ap (start_on g s t) q) | no q ↦ omega (arith, x.1 j (omega arith)) ]),
        (λ j h d. elim (ℕ_discrete j n) [ yes q ↦ omega arith | no q ↦ absurd (omega (arith, x.1 j (omega arith))) ]),
      )
      | no l ↦ rw (le-ltb (start_on g s t n) (start_on g s t b) (omega (arith, l))) (
        omega (arith, x.0),
        (λ j h. elim (ℕ_discrete j n) [ yes q ↦ omega (arith, ap (start_on g s t) q) | no q ↦ x.1 j (omega arith) ]),
        (λ j h d. elim (ℕ_discrete j n) [ yes q ↦ omega (arith, x.0) | no q ↦ x.2 j (omega arith) d ]),
      )
    ]

pub earliest-is : (g : Graph) (s : Partial) (t : ℕ) → 0 < g.machines → Earliest g s t (earliest g s t g.machines)
earliest-is g s t h = let x = picked-machine g s t g.machines in record { low = omega (arith, x.0); least = x.1; lowest = x.2 }

pick-same : (o : Ordering) (b : ℕ) → b ≡ min_by_ordering o b b
pick-same Less b = refl
pick-same Equal b = refl
pick-same Greater b = refl

-- what a search over the machines finds
earliest-folded : (g : Graph) (s : Partial) (t n : ℕ) → fold (pick nat_cmp (start_on g s t)) 0 (range_with_len 0 n) ≡ earliest g s t n
unfolding earliest
earliest-folded g s t zero = refl
earliest-folded g s t (suc n) =
    fold-below (pick nat_cmp (start_on g s t)) 0 n
    ∙ ap (λ b. pick nat_cmp (start_on g s t) b n) (earliest-folded g s t n)
    ∙ nat-picks (start_on g s t (earliest g s t n)) (start_on g s t n) (earliest g s t n) n

pub earliest-found : (g : Graph) (s : Partial) (t n : ℕ) → 0 < n → unwrap_or (reduce (pick nat_cmp (start_on g s t)) (range_with_len 0 n)) 0 ≡ earliest g s t n
earliest-found g s t zero h = absurd (omega arith)
earliest-found g s t (suc n) h =
    ap (λ b. fold (pick nat_cmp (start_on g s t)) b (range_with_len 1 n)) (pick-same (nat_cmp (start_on g s t 0) (start_on g s t 0)) 0)
    ∙ earliest-folded g s t (suc n)

pub next-none : (g : Graph) (s : Partial) → next_task g s 0 ≡ g.tasks
unfolding next_task
next-none g s = refl

-- a step of the choice, by the levels kept in the graph
pub next_more : (g : TaskGraph) (s : Partial) (t : ℕ) → t < g.tasks
    → next_task (the_graph g) s (t + 1) ≡ cond (is_free (the_graph g) s t && (eqb (next_task (the_graph g) s t) g.tasks || ltb (get_or (levels_of g) (next_task (the_graph g) s t) 0) (get_or (levels_of g) t 0))) t (next_task (the_graph g) s t)
unfolding next_task
next_more g s t h = ap (next_task (the_graph g) s) (add-one t) ∙ go (next_task (the_graph g) s t) (next_le (the_graph g) s t (omega arith))
  where
    go : (b : ℕ) → b ≤ g.tasks → cond (is_free (the_graph g) s t && (eqb b g.tasks || ltb (level (the_graph g) b) (level (the_graph g) t))) t b ≡ cond (is_free (the_graph g) s t && (eqb b g.tasks || ltb (get_or (levels_of g) b 0) (get_or (levels_of g) t 0))) t b
    go b l = elim (ℕ_discrete b g.tasks) [
      | yes e ↦ rw (eq-eqb b g.tasks e)
      | no ne ↦ let z = levels-are g t h in let y = levels-are g b (omega arith) in rw (z, y)
    ]

-- what a search over the tasks finds, by the levels kept in the graph
module _ (g : TaskGraph) (s : Partial) where
  -- task b, where it is one
  abbrev among : ℕ → Option ℕ
  among b = cond (ltb b g.tasks) (Some b) None

  abbrev higher : ℕ → ℕ → ℕ
  higher b t = cond (ltb (get_or (levels_of g) b 0) (get_or (levels_of g) t 0)) t b

  next-folded : (n : ℕ) → n ≤ g.tasks → fold (best (is_free (the_graph g) s) higher) None (range_with_len 0 n) ≡ among (next_task (the_graph g) s n)
  unfolding next_task
  next-folded zero h = rw (le-ltb g.tasks g.tasks (omega arith)) refl
  next-folded (suc n) h =
      fold-below (best (is_free (the_graph g) s) higher) None n
      ∙ ap (λ o. best (is_free (the_graph g) s) higher o n) (next-folded n (omega arith))
      ∙ go (is_free (the_graph g) s n) (next_task (the_graph g) s n) (next_le (the_graph g) s n (omega arith))
    where
      one : (x : ℕ) → x < g.tasks → Some x ≡ among x
      one x l = rw (lt-ltb x g.tasks l) refl

      either : (r : Bool) (b : ℕ) → b < g.tasks → Some (cond r n b) ≡ among (cond r n b)
      either true b l = one n (omega arith)
      either false b l = one b l

      go : (r : Bool) (b : ℕ) → b ≤ g.tasks
          → best-if r higher (among b) n ≡ among (cond (r && (eqb b g.tasks || ltb (level (the_graph g) b) (level (the_graph g) n))) n b)
      go r b l = elim (dec_lt b g.tasks) [
        | yes k ↦ rw (sym (one b k), ne_eqb b g.tasks (omega arith)) (two r b k)
        | no k ↦ rw (le-ltb b g.tasks (omega arith), eq-eqb b g.tasks (omega arith)) (none r (le-ltb b g.tasks (omega arith)))
      ]
        where
          two : (r : Bool) (b : ℕ) → b < g.tasks → cond r (Some (higher b n)) (Some b) ≡ among (cond (r && ltb (level (the_graph g) b) (level (the_graph g) n)) n b)
          two true b k =
              let z = levels-are g n (omega arith) in
              let y = levels-are g b k in
              rw (z, y) (either (ltb (level (the_graph g) b) (level (the_graph g) n)) b k)
          two false b k = one b k

          none : (r : Bool) → ltb b g.tasks ≡ false → cond r (Some n) None ≡ among (cond (r && true) n b)
          none true e = one n (omega arith)
          none false e = rw e refl

  pub next-found : reduce (pick (λ (x : Reverse ℕ) (y : Reverse ℕ). nat_cmp y.0 x.0) (λ t. record { 0 = get_or (levels_of g) t 0 })) (filter (is_free (the_graph g) s) (range_with_len 0 g.tasks)) ≡ next_free (the_graph g) s
  next-found =
      (λ i. reduce (λ b t. nat-picks (get_or (levels_of g) t 0) (get_or (levels_of g) b 0) b t i) (filter (is_free (the_graph g) s) (range_with_len 0 g.tasks)))
      ∙ reduce-filtered (is_free (the_graph g) s) higher (range_with_len 0 g.tasks) ∙ next-folded g.tasks (omega arith)

pub next-law : (g : Graph) → Dag g → (s : Partial) → Unfinished g s → IsSomeAnd (next_free g s) (Next g s)
next-law g S s x = let N = next-is g S s x in rw (lt-ltb (next_task g s g.tasks) g.tasks N.free.0) N
