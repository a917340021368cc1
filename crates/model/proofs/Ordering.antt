use Rattle.std.proofs.Common.{◌≡◌, ℕ, suc, ◌+◌, ◌-◌, ◌<◌, ◌≤◌, Bool, ◌⊎◌, List, [], ◌∷◌, ◌++◌, length, get_or, refl, ap, ◌∙◌, inl, inr, arith}
use Rattle.std.specs.List.{range_with_len, flat_map, Contains, AllPairs}
use Rattle.std.proofs.lemmas.Bool.{cases_lt}
use Rattle.std.proofs.lemmas.List.{length-map, get_or-map, length-append, get_or_append_left, get_or-append-add}
use Rattle.std.proofs.lemmas.List.FromFn.{length-range_with_len, get_or-range_with_len}
use Rattle.std.proofs.lemmas.List.Elements.{Contains-get_or}
use Rattle.std.proofs.lemmas.List.Kept.{AllPairs-filter}
use Rattle.model.specs.Graph.{Graph}
use Rattle.model.specs.Partial.{Partial, is_free}
use Rattle.model.specs.Children.{Used, LowestEmpty, MachineFirst, ChoiceFirst, is_used, is_lowest_empty, passing, tried, choices}
use Rattle.model.proofs.Membership.{map-contains, flat_map-contains, passing-contains}
use Rattle.model.proofs.Choosing.{test-used, test-empty, tries}

-- The order in which choices stand: two lists in order, one after the other, are in order if each of the first comes
-- first, seen from each of the second.
pairs-append : {X : Type 0} (R : X → X → Type 0) (xs ys : List X) → AllPairs R xs → AllPairs R ys → ((x y : X) → Contains xs x → Contains ys y → R x y) → AllPairs R (xs ++ ys)
pairs-append R xs ys h k across i j d lt within = go (cases_lt i (length xs)) (cases_lt j (length xs))
  where
    left : (e : ℕ) → e < length xs → get_or (xs ++ ys) e d ≡ get_or xs e d
    left e l = get_or_append_left xs ys d e l

    right : (e : ℕ) → length xs ≤ e → get_or (xs ++ ys) e d ≡ get_or ys (e - length xs) d
    right e l = let back : e ≡ length xs + (e - length xs) = omega arith in ap (λ n. get_or (xs ++ ys) n d) back ∙ get_or-append-add xs ys (e - length xs) d

    inside : length xs ≤ j → j - length xs < length ys
    inside l = omega (arith, within, length-append xs ys)

    go : (i < length xs) ⊎ (length xs ≤ i) → (j < length xs) ⊎ (length xs ≤ j) → R (get_or (xs ++ ys) i d) (get_or (xs ++ ys) j d)
    go (inl a) (inl b) = rw (left i a, left j b) (h i j d lt b)
    go (inl a) (inr b) = rw (left i a, right j b) (across _ _ (Contains-get_or xs i d a) (Contains-get_or ys (j - length xs) d (inside b)))
    go (inr a) (inl b) = absurd (omega (arith, a, b, lt))
    go (inr a) (inr b) = rw (right i a, right j b) (k (i - length xs) (j - length xs) d (omega (arith, a, b, lt)) (inside b))

pairs-weaker : {X : Type 0} (R S : X → X → Type 0) (xs : List X) → ((x y : X) → Contains xs x → Contains xs y → R x y → S x y) → AllPairs R xs → AllPairs S xs
pairs-weaker R S xs f h i j d lt within = f _ _ (Contains-get_or xs i d (omega (arith, lt, within))) (Contains-get_or xs j d within) (h i j d lt within)

abbrev Ascends : List ℕ → Type 0
Ascends = AllPairs (λ x y. x < y)

passing-ascends : (n : ℕ) (f : ℕ → Bool) → Ascends (passing n f)
passing-ascends n f = AllPairs-filter (λ x y. x < y) f (range_with_len 0 n) (λ i j d lt within.
    let l : j < n = omega (arith, within, length-range_with_len 0 n) in
    omega (arith, lt, get_or-range_with_len 0 n i d (omega (arith, lt, l)), get_or-range_with_len 0 n j d l))

module _ (g : Graph) (s : Partial) where
  -- used machines ascending, then the lowest empty one
  tried-ordered : AllPairs (MachineFirst g s) (tried g s)
  unfolding tried
  tried-ordered = pairs-append (MachineFirst g s) used empty
      (pairs-weaker (λ x y. x < y) (MachineFirst g s) used (λ m k cm ck l. (is-used m cm, λ _. l)) (passing-ascends g.machines (is_used g s)))
      (pairs-weaker (λ x y. x < y) (MachineFirst g s) empty (λ m k cm ck l. absurd ((is-empty m cm).1 ((is-empty k ck).2 m l))) (passing-ascends g.machines (is_lowest_empty g s)))
      (λ m k cm ck. (is-used m cm, λ U. absurd ((is-empty k ck).1 U)))
    where
      used : List ℕ
      used = passing g.machines (is_used g s)

      empty : List ℕ
      empty = passing g.machines (is_lowest_empty g s)

      is-used : (m : ℕ) → Contains (passing g.machines (is_used g s)) m → Used g s m
      is-used m c = test-used g s m (passing-contains g.machines (is_used g s) m c).1

      is-empty : (m : ℕ) → Contains (passing g.machines (is_lowest_empty g s)) m → LowestEmpty g s m
      is-empty m c = let p = passing-contains g.machines (is_lowest_empty g s) m c in test-empty g s m p.0 p.1

  -- the choices of one task
  row-ordered : (t : ℕ) → AllPairs (ChoiceFirst g s) (tries g s t)
  row-ordered t i j d lt within =
      let l : j < length (tried g s) = omega (arith, within, length-map {B = ℕ × ℕ} (tried g s) (λ m. (t, m))) in
      rw (get_or-map (λ (m : ℕ). (t, m)) (tried g s) i 0 d (omega (arith, lt, l)), get_or-map (λ (m : ℕ). (t, m)) (tried g s) j 0 d l) (inr (refl, tried-ordered i j 0 lt l))

  tasks-ordered : (ts : List ℕ) → Ascends ts → AllPairs (ChoiceFirst g s) (flat_map (tries g s) ts)
  tasks-ordered [] h = λ i j d lt within. absurd (omega (arith, within))
  tasks-ordered (t ∷ ts) h = pairs-append (ChoiceFirst g s) (tries g s t) (flat_map (tries g s) ts) (row-ordered t)
      (tasks-ordered ts (λ i j d lt within. h (suc i) (suc j) d (omega (arith, lt)) (omega (arith, within))))
      (λ x y cx cy.
      let a = map-contains (λ (m : ℕ). (t, m)) (tried g s) x cx in
      let b = flat_map-contains (tries g s) ts y cy in
      let c = map-contains (λ (m : ℕ). (b.0, m)) (tried g s) y b.2 in
      inl (omega (arith, ap (λ (z : ℕ × ℕ). z.0) a.2, ap (λ (z : ℕ × ℕ). z.0) c.2, b.1.2, h 0 (suc b.1.0) b.0 (omega arith) (omega (arith, b.1.1)))))

pub choices-ordered : (g : Graph) (s : Partial) → AllPairs (ChoiceFirst g s) (choices g s)
unfolding choices
choices-ordered g s = tasks-ordered g s (passing g.tasks (is_free g s)) (passing-ascends g.tasks (is_free g s))
