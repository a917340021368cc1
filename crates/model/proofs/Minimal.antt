use Rattle.std.proofs.Common.{◌≡◌, ℕ, zero, suc, ◌<◌, ◌≤◌, Bool, true, false, ◌⊎◌, sym, refl, ap, ◌∙◌, inl, inr, arith}
use native.Mathlib.Decide.{ℕ_discrete}
use Rattle.model.specs.Range.{put}
use Rattle.model.specs.Graph.{Graph, Ends, Acyclic, Chain}
use Rattle.model.specs.Graph.Chain.{link, join}
use Rattle.model.proofs.Range.{put_other}
use Rattle.model.proofs.Counting.{missing, missing-put}

-- what the proofs use of a graph's law: transfers lead from task to task, and there is no cycle
pub record Dag (g : Graph) : Type 0 where
  pub ends : Ends g
  pub acyclic : Acyclic g

-- a transfer from a task of T to t, or none
feeder : (g : Graph) (T : ℕ → Bool) (t n : ℕ) → ((k : ℕ) × (k < n) × (g.to k ≡ t) × (T (g.from k) ≡ true)) ⊎ ((k : ℕ) → k < n → g.to k ≡ t → T (g.from k) ≡ false)
feeder g T t zero = inr (λ k h. absurd (omega arith))
feeder g T t (suc n) = go (feeder g T t n) (T (g.from n)) refl
  where
    go : ((k : ℕ) × (k < n) × (g.to k ≡ t) × (T (g.from k) ≡ true)) ⊎ ((k : ℕ) → k < n → g.to k ≡ t → T (g.from k) ≡ false) → (b : Bool) → T (g.from n) ≡ b
        → ((k : ℕ) × (k < suc n) × (g.to k ≡ t) × (T (g.from k) ≡ true)) ⊎ ((k : ℕ) → k < suc n → g.to k ≡ t → T (g.from k) ≡ false)
    go (inl x) b e = inl (x.0, omega (arith, x.1), x.2, x.3)
    go (inr f) false e = inr (λ k h q. elim (ℕ_discrete k n) [ yes z ↦ ap (λ i. T (g.from i)) z ∙ e | no z ↦ f k (omega arith) q ])
    go (inr f) true e = elim (ℕ_discrete (g.to n) t) [
      | yes q ↦ inl (n, omega arith, q, e)
      | no nq ↦ inr (λ k h q. elim (ℕ_discrete k n) [ yes z ↦ absurd (nq (sym (ap g.to z) ∙ q)) | no z ↦ f k (omega arith) q ])
    ]

-- without cycles some task of T is fed by none of T
pub minimal : (g : Graph) → Dag g → (T V : ℕ → Bool) (k : ℕ) → missing V g.tasks ≤ k → (t : ℕ) → t < g.tasks → T t ≡ true → ((v : ℕ) → V v ≡ true → Chain g t v)
    → (u : ℕ) × (u < g.tasks) × (T u ≡ true) × ((k : ℕ) → k < g.count → g.to k ≡ u → T (g.from k) ≡ false)
minimal g S T V zero hk t ht hT K = elim (unseen (V t) refl) [ ]
  where
    unseen : (b : Bool) → V t ≡ b → ⊥
    unseen true e = S.acyclic t (K t e)
    unseen false e = omega (arith, missing-put V t g.tasks ht e)
minimal g S T V (suc k) hk t ht hT K = go (minimal g S T (put V t true) k (less (V t) refl)) (feeder g T t g.count)
  where
    less : (b : Bool) → V t ≡ b → missing (put V t true) g.tasks ≤ k
    less true e = absurd (S.acyclic t (K t e))
    less false e = omega (arith, missing-put V t g.tasks ht e)

    go : ((a : ℕ) → a < g.tasks → T a ≡ true → ((v : ℕ) → put V t true v ≡ true → Chain g a v) → (u : ℕ) × (u < g.tasks) × (T u ≡ true) × ((k : ℕ) → k < g.count → g.to k ≡ u → T (g.from k) ≡ false))
        → ((k : ℕ) × (k < g.count) × (g.to k ≡ t) × (T (g.from k) ≡ true)) ⊎ ((k : ℕ) → k < g.count → g.to k ≡ t → T (g.from k) ≡ false)
        → (u : ℕ) × (u < g.tasks) × (T u ≡ true) × ((k : ℕ) → k < g.count → g.to k ≡ u → T (g.from k) ≡ false)
    go ih (inr f) = (t, ht, hT, f)
    go ih (inl x) =
        let c : Chain g (g.from x.0) t = let l : Chain g (g.from x.0) (g.to x.0) = link x.0 x.1 in rw x.2 at l in
        ih (g.from x.0) (S.ends x.0 x.1).0 x.3 (λ v q. elim (ℕ_discrete v t) [ yes e ↦ rw e c | no ne ↦ join c (K v (sym (put_other V t true v ne) ∙ q)) ])
