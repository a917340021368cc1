use Rattle.std.proofs.Common.{◌≡◌, ℕ, zero, suc, ◌<◌, ◌≤◌, Bool, true, false, cond, eqb, ◌≢◌, sym, refl, ap, ◌∙◌, arith}
use native.Mathlib.Decide.{ℕ_discrete}
use Rattle.std.proofs.lemmas.Bool.Decides.{nat_tests}
use Rattle.model.specs.Graph.{Graph}
use Rattle.model.specs.Partial.{Partial}
use Rattle.model.specs.NormalForm.{Renaming, Renamed}

-- an exchange of two machines
abbrev pub swap : ℕ → ℕ → ℕ → ℕ
swap a b m = cond (eqb m a) b (cond (eqb m b) a m)

pub swap-twice : (a b m : ℕ) → swap a b (swap a b m) ≡ m
swap-twice a b m = grind (arith, nat_tests)

pub swap-low : (a b p m : ℕ) → a < p → b < p → m < p → swap a b m < p
swap-low a b p m ha hb hm = grind (arith, nat_tests)

pub swap-left : (a b : ℕ) → swap a b a ≡ b
swap-left a b = grind (arith, nat_tests)

pub swap-off : (a b m : ℕ) → m ≢ a → m ≢ b → swap a b m ≡ m
swap-off a b m na nb = grind (arith, nat_tests)

abbrev pub unchanged : (p : ℕ) → Renaming p
unchanged p = record { to = λ m. m; back = λ m. m; low = λ m h. h; low_back = λ m h. h; there = λ m. refl; here = λ m. refl }

abbrev pub then-swap : (p : ℕ) → Renaming p → (a b : ℕ) → a < p → b < p → Renaming p
then-swap p π a b ha hb =
    record {
      to = λ m. swap a b (π.to m);
      back = λ m. π.back (swap a b m);
      low = λ m h. swap-low a b p _ ha hb (π.low m h);
      low_back = λ m h. π.low_back _ (swap-low a b p m ha hb h);
      there = λ m. ap π.back (swap-twice a b (π.to m)) ∙ π.there m;
      here = λ m. ap (swap a b) (π.here (swap a b m)) ∙ swap-twice a b m;
    }

pub renaming-inj : {p : ℕ} (π : Renaming p) (a b : ℕ) → π.to a ≡ π.to b → a ≡ b
renaming-inj π a b e = sym (π.there a) ∙ ap π.back e ∙ π.there b

-- tasks that lie together alike are renamed into one another
pub matching : (g : Graph) (s c : Partial)
    → ((t : ℕ) → t < g.tasks → s.placed t ≡ true → s.machine t < g.machines)
    → Renamed g s c → (i : ℕ) → i ≤ g.tasks
    → (π : Renaming g.machines) × ((t : ℕ) → t < i → s.placed t ≡ true → c.machine t ≡ π.to (s.machine t))
matching g s c low R zero hi = (unchanged g.machines, λ t h. absurd (omega arith))
matching g s c low R (suc i) hi = go (matching g s c low R i (omega arith)) (s.placed i) refl
  where
    go : (π : Renaming g.machines) × ((t : ℕ) → t < i → s.placed t ≡ true → c.machine t ≡ π.to (s.machine t))
        → (b : Bool) → s.placed i ≡ b
        → (π : Renaming g.machines) × ((t : ℕ) → t < suc i → s.placed t ≡ true → c.machine t ≡ π.to (s.machine t))
    go (π, K) false e = (
      π,
      λ t h p. elim (ℕ_discrete t i) [
        | yes q ↦ absurd (let z : ◌≡◌ {A = Bool} true false = sym p ∙ ap s.placed q ∙ e in let zz : ◌≡◌ {A = ℕ} 0 1 = cc in omega arith)
        | no ne ↦ K t (omega arith) p
      ],
    )
    go (π, K) true e =
        let hi2 : i < g.tasks = omega arith in
        let a : ℕ = π.to (s.machine i) in
        let b : ℕ = c.machine i in
        let ha : a < g.machines = π.low _ (low i hi2 e) in
        let hb : b < g.machines = R.low i hi2 e in (
          then-swap g.machines π a b ha hb,
          λ t h p. elim (ℕ_discrete t i) [
            | yes q ↦ ap c.machine q ∙ sym (swap-left a b) ∙ ap (λ u. swap a b (π.to (s.machine u))) (sym q)
            | no ne ↦ old t (omega arith) p (omega arith) hi2
          ],
        )
      where
        old : (t : ℕ) → t < i → s.placed t ≡ true → t < g.tasks → i < g.tasks → c.machine t ≡ swap (π.to (s.machine i)) (c.machine i) (π.to (s.machine t))
        old t h p ht hi2 = elim (ℕ_discrete (c.machine t) (c.machine i)) [
          | yes q ↦ let m : s.machine t ≡ s.machine i = (R.joint t i ht hi2 p e).1 q in
              q ∙ sym (swap-left (π.to (s.machine i)) (c.machine i)) ∙ ap (λ x. swap (π.to (s.machine i)) (c.machine i) (π.to x)) (sym m)
          | no nq ↦ let k = K t h p in
              let na : π.to (s.machine t) ≢ π.to (s.machine i) = λ z. nq ((R.joint t i ht hi2 p e).0 (renaming-inj π _ _ z)) in
              let nb : π.to (s.machine t) ≢ c.machine i = λ z. nq (k ∙ z) in
              k ∙ sym (swap-off (π.to (s.machine i)) (c.machine i) (π.to (s.machine t)) na nb)
        ]
