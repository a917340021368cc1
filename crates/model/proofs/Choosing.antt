use Rattle.std.proofs.Common.{◌≡◌, ℕ, ◌<◌, Bool, true, false, not, ◌⊎◌, ◌↔◌, List, map, refl, ap, subst, inl, inr, ⊎_elim}
use Rattle.std.specs.List.{Contains}
use Rattle.std.proofs.lemmas.Bool.{eq-eqb, eqb-true, and_from, and_parts, not-true, not_from_false, false_from_ne_true}
use Rattle.std.proofs.lemmas.List.Elements.{Contains-append_left, Contains-append_right, Contains-append_cases}
use Rattle.model.specs.Graph.{Graph}
use Rattle.model.specs.Partial.{Partial, Free, lies_on, is_free}
use Rattle.model.specs.NormalForm.{OnMachines}
use Rattle.model.specs.Children.{Used, LowestEmpty, Tried, is_used, is_lowest_empty, passing, tried, choices}
use borrow.Author.Clash.{clash}
use Rattle.model.proofs.Range.{any-on, any-has, every-all, every-from}
use Rattle.model.proofs.Rules.{free-test, test-free}
use Rattle.model.proofs.Membership.{contains-map, map-contains, contains-flat_map, flat_map-contains, contains-passing, passing-contains}

-- a machine is used or it is not, as the test says
pub used-test : (g : Graph) (s : Partial) (m : ℕ) → Used g s m → is_used g s m ≡ true
used-test g s m U = any-on g.tasks U.0 (lies_on s m) U.1 (and_from _ _ U.2 (eq-eqb _ _ U.3))

pub test-used : (g : Graph) (s : Partial) (m : ℕ) → is_used g s m ≡ true → Used g s m
test-used g s m e =
    let x = any-has g.tasks (lies_on s m) e in
    let p = and_parts _ _ x.2 in
    (x.0, x.1, p.0, eqb-true _ _ p.1)

pub used_or_not : (g : Graph) (s : Partial) (m : ℕ) → Used g s m ⊎ (Used g s m → ⊥)
used_or_not g s m = go (is_used g s m) refl
  where
    go : (b : Bool) → is_used g s m ≡ b → Used g s m ⊎ (Used g s m → ⊥)
    go true e = inl (test-used g s m e)
    go false e = inr (λ U. clash (is_used g s m) (used-test g s m U) e)

unused : (g : Graph) (s : Partial) (m : ℕ) → (Used g s m → ⊥) → is_used g s m ≡ false
unused g s m N = false_from_ne_true _ (λ e. N (test-used g s m e))

empty-test : (g : Graph) (s : Partial) (m : ℕ) → LowestEmpty g s m → is_lowest_empty g s m ≡ true
empty-test g s m E = and_from _ _ (not_from_false _ (unused g s m E.1)) (every-from m (is_used g s) (λ j h. used-test g s j (E.2 j h)))

pub test-empty : (g : Graph) (s : Partial) (m : ℕ) → m < g.machines → is_lowest_empty g s m ≡ true → LowestEmpty g s m
test-empty g s m h e =
    let p = and_parts (not (is_used g s m)) _ e in
    (h, (λ U. clash (is_used g s m) (used-test g s m U) (not-true _ p.0)), λ j l. test-used g s j (every-all m (is_used g s) p.1 j l))

-- a machine that is tried is one of the graph's
pub tried-low : (g : Graph) (s : Partial) (m : ℕ) → OnMachines g s → Tried g s m → m < g.machines
tried-low g s m on (inl U) = rw U.3 at (on U.0 U.1 U.2)
tried-low g s m on (inr E) = E.0

-- the machines tried are the used ones and the lowest empty one
contains-tried : (g : Graph) (s : Partial) (m : ℕ) → OnMachines g s → Tried g s m → Contains (tried g s) m
unfolding tried
contains-tried g s m on (inl U) = Contains-append_left (passing g.machines (is_used g s)) _ m (contains-passing g.machines (is_used g s) m (tried-low g s m on (inl U)) (used-test g s m U))
contains-tried g s m on (inr E) = Contains-append_right (passing g.machines (is_used g s)) _ m (contains-passing g.machines (is_lowest_empty g s) m E.0 (empty-test g s m E))

tried-contains : (g : Graph) (s : Partial) (m : ℕ) → Contains (tried g s) m → Tried g s m
unfolding tried
tried-contains g s m c = ⊎_elim
    (λ d. inl (test-used g s m (passing-contains g.machines (is_used g s) m d).1))
    (λ d. let p = passing-contains g.machines (is_lowest_empty g s) m d in inr (test-empty g s m p.0 p.1))
    (Contains-append_cases (passing g.machines (is_used g s)) (passing g.machines (is_lowest_empty g s)) m c)

abbrev pub tries : Graph → Partial → ℕ → List (ℕ × ℕ)
tries g s u = map (λ j. (u, j)) (tried g s)

-- the choices are the free tasks on the machines tried
pub choices-are : (g : Graph) (s : Partial) (t m : ℕ) → OnMachines g s → Contains (choices g s) (t, m) ↔ (Free g s t × Tried g s m)
unfolding choices
choices-are g s t m on = (there, back)
  where
    there : Contains (choices g s) (t, m) → Free g s t × Tried g s m
    there c =
        let x = flat_map-contains (tries g s) (passing g.tasks (is_free g s)) (t, m) c in
        let y = map-contains (λ j. (x.0, j)) (tried g s) (t, m) x.2 in
        let same_task : x.0 ≡ t = ap (λ (z : ℕ × ℕ). z.0) y.2 in
        let same_machine : y.0 ≡ m = ap (λ (z : ℕ × ℕ). z.1) y.2 in (
          test-free g s t (subst (λ u. is_free g s u ≡ true) same_task (passing-contains g.tasks (is_free g s) x.0 x.1).1),
          subst (Tried g s) same_machine (tried-contains g s y.0 y.1),
        )

    back : Free g s t × Tried g s m → Contains (choices g s) (t, m)
    back d = contains-flat_map (tries g s) (passing g.tasks (is_free g s)) t (t, m)
        (contains-passing g.tasks (is_free g s) t d.0.0 (free-test g s t d.0))
        (contains-map (λ j. (t, j)) (tried g s) m (contains-tried g s m on d.1))
