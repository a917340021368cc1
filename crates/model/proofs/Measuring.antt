use Rattle.std.proofs.Common.{◌≡◌, ℕ, zero, suc, ◌+◌, ◌<◌, ◌≤◌, ◌⊎◌, Bool, true, false, cond, refl, inl, inr, ⊎_elim, arith}
use native.Mathlib.Decide.{dec_lt}
use native.Mathlib.Nat.{mul_comm}
use Rattle.std.proofs.lemmas.Grind.{div_ceil_times}
use Rattle.model.specs.Range.{top, least}
use Rattle.model.specs.Graph.{Graph, level}
use Rattle.model.specs.Partial.{Partial, Free, is_free, arrival, data_ready, start_on, append}
use Rattle.model.specs.Bounds.{load, load_bound, path_at, arrival_at, arrival_bound, earliest_data}
use Rattle.model.specs.Measures.{Least, Late, MakespanIsGreatest, LoadIsLeast, PathIsGreatest, EarliestIsLeast, ArrivalIsGreatest, LargerIsGreatest, AppendIsLeast}
use Rattle.model.proofs.Range.{le-top, top-le, least-le, cond-le, put_same, put_other}
use Rattle.model.proofs.Rules.{free-test, test-free, ready-has, finish-has, finish-le}
use Rattle.std.proofs.lemmas.Bool.{eqb-true}
use Rattle.model.proofs.Loads.{ceil-le}

-- Measures in words.

-- the greatest is one of the values, or 0
top-cases : (n : ℕ) (f : ℕ → ℕ) → (top n f ≡ 0) ⊎ ((k : ℕ) × (k < n) × (top n f ≡ f k))
top-cases zero f = inl refl
top-cases (suc n) f = elim (dec_lt (f n) (top n f)) [
  | yes l ↦ ⊎_elim (λ z. absurd (omega (arith, z, l))) (λ x. inr (x.0, omega (arith, x.1), omega (arith, x.2, l))) (top-cases n f)
  | no l ↦ inr (n, omega arith, omega (arith, l))
]

top-at : (n : ℕ) (f : ℕ → ℕ) → 0 < n → (k : ℕ) × (k < n) × (top n f ≡ f k)
top-at n f h = ⊎_elim (λ z. (0, h, omega (arith, z, le-top n f 0 h))) (λ x. x) (top-cases n f)

least-at : (n : ℕ) (f : ℕ → ℕ) → 0 < n → (k : ℕ) × (k < n) × (least n f ≡ f k)
least-at zero f h = absurd (omega (arith, h))
least-at (suc zero) f h = (0, h, omega arith)
least-at (suc (suc n)) f h = elim (dec_lt (f (suc n)) (least (suc n) f)) [
  | yes l ↦ (suc n, omega arith, omega (arith, l))
  | no l ↦ let x = least-at (suc n) f (omega arith) in (x.0, omega (arith, x.1), omega (arith, x.2, l))
]

-- a term that counts only under a test, where it is not 0
counts : (b : Bool) (x : ℕ) → 0 < cond b x 0 → (b ≡ true) × (cond b x 0 ≡ x)
counts true x h = (refl, refl)
counts false x h = absurd (omega (arith, h))

on : (b : Bool) (x : ℕ) → b ≡ true → cond b x 0 ≡ x
on b x e = rw e refl

pub makespan-is-greatest : MakespanIsGreatest
makespan-is-greatest g p h = record {
  holds = top-at g.tasks (λ t. p.start t + g.work t) h;
  greatest = λ y x. omega (arith, x.2, le-top g.tasks (λ t. p.start t + g.work t) x.0 x.1);
}

pub load-is-least : LoadIsLeast
load-is-least g s h = record {
  holds = omega (arith, (div_ceil_times (load g s) g.machines h).0, mul_comm g.machines (load_bound g s));
  least = λ y l. ceil-le (load g s) g.machines y h l;
}

pub path-is-greatest : PathIsGreatest
path-is-greatest g s h = record {
  holds = elim (dec_lt (top g.tasks (level g)) (top g.tasks (path_at g s))) [
    | yes l ↦
        let x = top-at g.tasks (path_at g s) h in
        let c = counts (s.placed x.0) (s.start x.0 + level g x.0) (omega (arith, x.2, l)) in
        (x.0, x.1, inr (c.0, omega (arith, x.2, c.1, l)))
    | no l ↦ let x = top-at g.tasks (level g) h in (x.0, x.1, inl (omega (arith, x.2, l)))
  ];
  greatest = λ y x. ⊎_elim
      (λ e. omega (arith, e, le-top g.tasks (level g) x.0 x.1))
      (λ e. omega (arith, e.1, le-top g.tasks (path_at g s) x.0 x.1, on (s.placed x.0) (s.start x.0 + level g x.0) e.0))
      x.2;
}

pub earliest-is-least : EarliestIsLeast
earliest-is-least g s t h = record {
  holds = least-at g.machines (data_ready g s t) h;
  least = λ y x. omega (arith, x.2, least-le g.machines (data_ready g s t) x.0 x.1);
}

module _ (g : Graph) (s : Partial) where
  value : ℕ → ℕ
  value t = earliest_data g s t + level g t

  reaches : (t : ℕ) → Free g s t → value t ≤ arrival_bound g s
  unfolding value
  reaches t F = omega (arith, on (is_free g s t) (earliest_data g s t + level g t) (free-test g s t F), le-top g.tasks (arrival_at g s) t F.0)

  attained : (t : ℕ) → Free g s t → (u : ℕ) × Free g s u × (arrival_bound g s ≡ value u)
  unfolding value
  attained t F = elim (dec_lt 0 (arrival_bound g s)) [
    | yes l ↦
        let x = top-at g.tasks (arrival_at g s) (omega (arith, F.0)) in
        let c = counts (is_free g s x.0) (earliest_data g s x.0 + level g x.0) (omega (arith, x.2, l)) in
        (x.0, test-free g s x.0 c.0, omega (arith, x.2, c.1))
    | no l ↦ (t, F, omega (arith, l, reaches t F))
  ]

  none-free : ((t : ℕ) → Free g s t → ⊥) → arrival_bound g s ≡ 0
  none-free n = omega (arith, top-le g.tasks (arrival_at g s) 0 (λ t h. cond-le (is_free g s t) _ 0 (λ q. absurd (n t (test-free g s t q)))))

pub arrival-is-greatest : ArrivalIsGreatest
unfolding value
arrival-is-greatest g s = (
  (λ t F. record { holds = attained g s t F; greatest = λ y x. omega (arith, x.2, reaches g s x.0 x.1) }),
  none-free g s,
)

pub larger-is-greatest : LargerIsGreatest
larger-is-greatest a b g s = record {
  holds = elim (dec_lt (a g s) (b g s)) [ yes l ↦ inr (omega (arith, l)) | no l ↦ inl (omega (arith, l)) ];
  greatest = λ y x. ⊎_elim (λ e. omega (arith, e)) (λ e. omega (arith, e)) x;
}

-- the start is not before any arrival and not before the machine's finish, and the least so
starts-late : (g : Graph) (s : Partial) (t m : ℕ) → Least (Late g s t m) (start_on g s t m)
starts-late g s t m = record {
  holds = ((λ k h e. omega (arith, ready-has g s t m k h e)), λ u h p q. omega (arith, finish-has g s m u h p q));
  least = λ y l. omega (
    arith,
    top-le g.count (arrival g s t m) y (λ k h. cond-le _ _ y (λ q. l.0 k h (eqb-true _ _ q))),
    finish-le g s m y l.1,
  );
}

pub append-is-least : AppendIsLeast
unfolding append
append-is-least g s t m = record {
  placed = put_same s.placed t true t refl;
  machine = put_same s.machine t m t refl;
  start = rw (put_same s.start t (start_on g s t m) t refl) (starts-late g s t m);
  others = λ u ne. (put_other s.placed t true u ne, put_other s.machine t m u ne, put_other s.start t (start_on g s t m) u ne);
}
