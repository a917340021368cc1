use Rattle.std.proofs.Common.{◌≡◌, ℕ, suc, ◌<◌, ◌≤◌, Bool, true, not, ◌⊎◌, sym, refl, inl, inr, arith}
use native.Mathlib.Decide.{dec_lt}
use Rattle.std.proofs.lemmas.Bool.{not-true, not-false}
use Rattle.model.specs.Range.{first}
use Rattle.model.proofs.Range.{First, first-is}
use Rattle.std.specs.List.{Contains}
use Rattle.model.specs.Graph.{Graph, Lawful}
use Rattle.model.specs.Schedule.{Schedule, makespan}
use Rattle.model.specs.Partial.{Partial, Unfinished, append}
use Rattle.model.specs.NormalForm.{Renaming, OnMachines}
use Rattle.model.specs.Reachable.{Reachable}
use Rattle.model.specs.Completion.{Completion, on_renamed}
use Rattle.model.specs.Children.{Used, LowestEmpty, Tried, is_used, choices, child, children}
use borrow.Author.Clash.{clash}
use Rattle.model.proofs.Minimal.{Dag}
use Rattle.model.proofs.Renamings.{unchanged, then-swap, swap-left, swap-off}
use Rattle.model.proofs.Naming.{form-renamed}
use Rattle.model.proofs.Rules.{reachable-obeys, append-obeys}
use Rattle.model.proofs.Starts.{lawful-dag}
use Rattle.model.proofs.Completions.{renamed-completion, match-completion}
use Rattle.model.proofs.Leading.{Chosen, chosen}
use Rattle.model.proofs.Moving.{chosen-free, moved, moved-completion, moved-makespan}
use Rattle.model.proofs.Membership.{contains-map}
use Rattle.model.proofs.Choosing.{used-test, test-used, used_or_not, tried-low, choices-are}

-- below m the lowest empty machine, or all are used
lowest-empty : (g : Graph) (s : Partial) (m : ℕ) → m ≤ g.machines → ((e : ℕ) × (e < m) × LowestEmpty g s e) ⊎ ((j : ℕ) → j < m → Used g s j)
lowest-empty g s m l = go (first m empty) (first-is m empty)
  where
    empty : ℕ → Bool
    empty j = not (is_used g s j)

    go : (e : ℕ) → First m empty e → ((e : ℕ) × (e < m) × LowestEmpty g s e) ⊎ ((j : ℕ) → j < m → Used g s j)
    go e F = elim (dec_lt e m) [
      | yes h ↦ inl (e, h, (omega (arith, h), (λ U. clash (is_used g s e) (used-test g s e U) (not-true _ (F.2 h))), λ j k. test-used g s j (not-false _ (F.1 j k))))
      | no h ↦ inr (λ j k. test-used g s j (not-false _ (F.1 j (omega arith))))
    ]

-- the machine that a completion gives to a task may be taken to be one that is tried
tried-completion : (g : Graph) (s : Partial) (p : Schedule) → Completion g s p → (t : ℕ) → t < g.tasks
    → (π : Renaming g.machines) × Completion g s (on_renamed π p) × Tried g s (π.to (p.machine t))
tried-completion g s p C t ht = go (used_or_not g s (p.machine t)) (lowest-empty g s (suc (p.machine t)) low)
  where
    low : suc (p.machine t) ≤ g.machines
    low = omega (arith, C.feasible.on t ht)

    go : Used g s (p.machine t) ⊎ (Used g s (p.machine t) → ⊥) → ((e : ℕ) × (e < suc (p.machine t)) × LowestEmpty g s e) ⊎ ((j : ℕ) → j < suc (p.machine t) → Used g s j)
        → (π : Renaming g.machines) × Completion g s (on_renamed π p) × Tried g s (π.to (p.machine t))
    go (inl u) x = (unchanged g.machines, C, inl u)
    go (inr f) (inr all) = absurd (f (all (p.machine t) (omega arith)))
    go (inr f) (inl (e, h, E)) =
        let π = then-swap g.machines (unchanged g.machines) (p.machine t) e (omega (arith, low)) E.0 in (
          π,
          renamed-completion g π s s p (λ u hu. refl) (λ u hu q. refl) (λ u hu q. sym (swap-off (p.machine t) e (s.machine u) (λ z. f (u, hu, q, z)) (λ z. E.1 (u, hu, q, z)))) C,
          inr (rw (swap-left (p.machine t) e) E),
        )

pub children-cover : (g : Graph) (s : Partial) (p : Schedule) → Lawful g → Reachable g s → Unfinished g s → Completion g s p
    → (c : Partial) × Contains (children g s) c × (q : Schedule) × Completion g c q × (makespan g q ≤ makespan g p)
children-cover g s p L R X C = go (chosen g S p.start s.placed)
  where
    S : Dag g
    S = lawful-dag L

    go : ((t : ℕ) × Chosen g p.start s.placed t) ⊎ ((u : ℕ) → u < g.tasks → s.placed u ≡ true)
        → (c : Partial) × Contains (children g s) c × (q : Schedule) × Completion g c q × (makespan g q ≤ makespan g p)
    go (inr all) = clash (s.placed X.0) (all X.0 X.1) X.2
    go (inl (t, N)) =
        let V = reachable-obeys g S R in
        let x = tried-completion g s p C t N.low in
        let p2 : Schedule = on_renamed x.0 p in
        let m : ℕ = x.0.to (p.machine t) in
        let F = chosen-free g S s p2 x.1 t N in
        let on : OnMachines g (append g s t m) = (append-obeys g s t m V F (tried-low g s m V.on x.2)).on in
        let y = match-completion g (append g s t m) (child g s (t, m)) (moved g S s p2 x.1 t N) (form-renamed g (append g s t m) on) (moved-completion g S s p2 x.1 t N) in (
          child g s (t, m),
          contains-map (child g s) (choices g s) (t, m) ((choices-are g s t m V.on).1 (F, x.2)),
          on_renamed y.0 (moved g S s p2 x.1 t N),
          y.1,
          moved-makespan g S s p2 x.1 t N,
        )
