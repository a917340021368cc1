use Rattle.std.proofs.Common.{◌≡◌, ℕ, zero, suc, ◌+◌, ◌*◌, ◌<◌, ◌≤◌, max, Bool, true, false, cond, eqb, ◌⊎◌, sym, refl, ap, ◌∙◌, subst, inl, inr, add-one, arith}
use native.Mathlib.Decide.{ℕ_discrete, dec_le}
use Rattle.std.proofs.lemmas.Bool.{eq-eqb, ne_eqb}
use Rattle.model.specs.Range.{top, put}
use Rattle.model.specs.Graph.{Graph, Ends, Chain, ChainWork, stop, go, BottomLevel, longest, level}
use Rattle.model.specs.Graph.Chain.{link, join}
use borrow.Author.Clash.{clash}
use Rattle.model.proofs.Range.{le-top, top-le, top-same, cond-le, put_other}
use Rattle.model.proofs.Counting.{missing, missing-put, all-missing}
use Rattle.model.proofs.Minimal.{Dag}

top-is : (n : ℕ) (f : ℕ → ℕ) → (top n f ≡ 0) ⊎ ((k : ℕ) × (k < n) × (top n f ≡ f k))
top-is zero f = inl refl
top-is (suc n) f = pick (top-is n f) (dec_le (f n) (top n f))
  where
    pick : (top n f ≡ 0) ⊎ ((k : ℕ) × (k < n) × (top n f ≡ f k)) → Dec (f n ≤ top n f) → (max (top n f) (f n) ≡ 0) ⊎ ((k : ℕ) × (k < suc n) × (max (top n f) (f n) ≡ f k))
    pick x (no h) = inr (n, omega arith, omega arith)
    pick (inl z) (yes h) = inl (omega arith)
    pick (inr x) (yes h) = inr (x.0, omega (arith, x.1), omega (arith, x.2))

abbrev step : Graph → ℕ → ℕ → ℕ → ℕ
step g k t e = cond (eqb (g.from e) t) (longest g k (g.to e)) 0

-- the level is the sum of some chain
pub reaches : (g : Graph) (k t : ℕ) → ChainWork g t (longest g k t)
reaches g zero t = stop
reaches g (suc k) t = pick (λ u. reaches g k u) (top-is g.count (step g k t))
  where
    pick : ((u : ℕ) → ChainWork g u (longest g k u)) → (top g.count (step g k t) ≡ 0) ⊎ ((e : ℕ) × (e < g.count) × (top g.count (step g k t) ≡ step g k t e)) → ChainWork g t (g.work t + top g.count (step g k t))
    pick ih (inl z) = subst (ChainWork g t) (let q : g.work t ≡ g.work t + top g.count (step g k t) = omega arith in q) stop
    pick ih (inr x) = elim (ℕ_discrete (g.from x.0) t) [
      | yes q ↦ subst (λ v. ChainWork g t (g.work t + v)) (sym (x.2 ∙ rw (eq-eqb (g.from x.0) t q))) (go x.0 x.1 q (ih (g.to x.0)))
      | no nq ↦ let z : top g.count (step g k t) ≡ 0 = x.2 ∙ rw (ne_eqb (g.from x.0) t nq) in
          subst (ChainWork g t) (let q : g.work t ≡ g.work t + top g.count (step g k t) = omega arith in q) stop
    ]

-- and none is greater: without cycles a chain meets a task once
above : (g : Graph) → Dag g → (t v : ℕ) → ChainWork g t v → (k : ℕ) (V : ℕ → Bool) → t < g.tasks → missing V g.tasks ≤ suc k → ((u : ℕ) → V u ≡ true → Chain g u t) → v ≤ longest g k t
above g S t v (stop) zero V ht hk K = omega arith
above g S t v (stop) (suc k) V ht hk K = omega arith
above g S t v (go {v = w} e he q s) k V ht hk K = pass (V t) refl k hk (above g S (g.to e) w s)
  where
    up : (u : ℕ) → put V t true u ≡ true → Chain g u (g.to e)
    up u p =
        let l : Chain g (g.from e) (g.to e) = link e he in
        let l2 : Chain g t (g.to e) = subst (λ x. Chain g x (g.to e)) q l in
        elim (ℕ_discrete u t) [ yes z ↦ subst (λ x. Chain g x (g.to e)) (sym z) l2 | no nz ↦ join (K u (sym (put_other V t true u nz) ∙ p)) l2 ]

    pass : (b : Bool) → V t ≡ b → (k : ℕ) → missing V g.tasks ≤ suc k
        → ((k : ℕ) (V : ℕ → Bool) → g.to e < g.tasks → missing V g.tasks ≤ suc k → ((u : ℕ) → V u ≡ true → Chain g u (g.to e)) → w ≤ longest g k (g.to e))
        → g.work t + w ≤ longest g k t
    pass true b k hk ih = absurd (S.acyclic t (K t b))
    pass false b zero hk ih = absurd (next (put V t true (g.to e)) refl)
      where
        next : (c : Bool) → put V t true (g.to e) ≡ c → ⊥
        next true p = S.acyclic (g.to e) (up (g.to e) p)
        next false p = omega (arith, missing-put V t g.tasks ht b, missing-put (put V t true) (g.to e) g.tasks (S.ends e he).1 p)
    pass false b (suc k) hk ih =
        let m = missing-put V t g.tasks ht b in
        let r = ih k (put V t true) (S.ends e he).1 (omega arith) up in
        let f : step g k t e ≡ longest g k (g.to e) = rw (eq-eqb (g.from e) t q) in
        omega (arith, le-top g.count (step g k t) e he)

-- the bottom level: no chain has more
greatest : (g : Graph) → Dag g → (t v : ℕ) → t < g.tasks → ChainWork g t v → v ≤ longest g g.tasks t
greatest g S t v ht s = above g S t v s g.tasks (λ _. false) ht (omega (arith, all-missing g.tasks)) (λ u p. clash false p refl)

pub level-bottom : (g : Graph) → Dag g → (t : ℕ) → t < g.tasks → BottomLevel g t (level g t)
unfolding level
level-bottom g S t h = (reaches g g.tasks t, λ w c. greatest g S t w h c)

-- levels fit their type
pub longest-small : (g : Graph) → Ends g → ((t : ℕ) → t < g.tasks → g.work t ≤ 1000) → (k t : ℕ) → t < g.tasks → longest g k t ≤ 1000 * k + 1000
longest-small g E W zero t h = omega (arith, W t h)
longest-small g E W (suc k) t h = go (longest-small g E W k)
  where
    go : ((t : ℕ) → t < g.tasks → longest g k t ≤ 1000 * k + 1000) → g.work t + top g.count (λ e. cond (eqb (g.from e) t) (longest g k (g.to e)) 0) ≤ 1000 * suc k + 1000
    go ih =
        let a = top-le g.count (λ e. cond (eqb (g.from e) t) (longest g k (g.to e)) 0) (1000 * k + 1000) (λ e he. cond-le (eqb (g.from e) t) _ (1000 * k + 1000) (λ q. ih (g.to e) (E e he).1)) in
        omega (arith, W t h)

-- one round of relaxation
pub longest-more : (g : Graph) → Ends g → (low : ℕ → ℕ) (k : ℕ) → ((t : ℕ) → t < g.tasks → low t ≡ longest g k t) → (t : ℕ)
    → g.work t + top g.count (λ e. cond (eqb (g.from e) t) (low (g.to e)) 0) ≡ longest g (k + 1) t
longest-more g E low k h t =
    ap (λ (x : ℕ). g.work t + x) (top-same g.count (λ e. cond (eqb (g.from e) t) (low (g.to e)) 0) (λ e. cond (eqb (g.from e) t) (longest g k (g.to e)) 0)
    (λ e he. ap (λ (x : ℕ). cond (eqb (g.from e) t) x 0) (h (g.to e) (E e he).1)))
    ∙ sym (ap (λ (j : ℕ). longest g j t) (add-one k))
