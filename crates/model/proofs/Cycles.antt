use Rattle.std.proofs.Common.{◌≡◌, ℕ, zero, suc, ◌<◌, ◌≤◌, true, ◌&&◌, eqb, ◌⊎◌, sym, refl, subst, inl, inr, ⊎_elim, arith}
use Rattle.std.proofs.lemmas.Bool.{eq-eqb, eqb-true, or_left, or_right, or_cases, and_from, and_parts, cases_lt}
use Rattle.model.specs.Graph.{Graph, Ends, Chain, OnCycle, Acyclic}
use Rattle.model.specs.Graph.Chain.{link, join}
use Rattle.model.specs.Cycles.{joined, reach, cyclic, LowestOnCycle}
use borrow.Author.Clash.{clash}
use Rattle.std.proofs.lemmas.Bool.{false_from_ne_true}
use Rattle.model.proofs.Range.{any-on, any-has, first-is, first-none}

-- a transfer is found by its ends
link-joined : (g : Graph) (k : ℕ) → k < g.count → joined g (g.from k) (g.to k) ≡ true
link-joined g k h = any-on g.count k (λ j. eqb (g.from j) (g.from k) && eqb (g.to j) (g.to k)) h (and_from _ _ (eq-eqb (g.from k) (g.from k) refl) (eq-eqb (g.to k) (g.to k) refl))

joined-link : (g : Graph) (a b : ℕ) → joined g a b ≡ true → Chain g a b
joined-link g a b e =
    let x = any-has g.count (λ j. eqb (g.from j) a && eqb (g.to j) b) e in
    let p = and_parts _ _ x.2 in
    let l : Chain g (g.from x.0) (g.to x.0) = link x.0 x.1 in
    subst (λ v. Chain g a v) (eqb-true _ _ p.1) (subst (λ v. Chain g v (g.to x.0)) (eqb-true _ _ p.0) l)

reach-chain : (g : Graph) (n a b : ℕ) → reach g n a b ≡ true → Chain g a b
reach-chain g zero a b e = joined-link g a b e
reach-chain g (suc n) a b e =
    ⊎_elim (λ h. reach-chain g n a b h)
    (λ h. let p = and_parts _ _ h in join (reach-chain g n a n p.0) (reach-chain g n n b p.1))
    (or_cases (reach g n a b) (reach g n a n && reach g n n b) e)

-- a chain, transfer by transfer, whose inner tasks are below n
data Via (g : Graph) (n : ℕ) : ℕ → ℕ → Type 0 where
  last : {a b : ℕ} → joined g a b ≡ true → Via g n a b
  over : {a b c : ℕ} → joined g a b ≡ true → b < n → Via g n b c → Via g n a c

-- split at the task n
split_at : (g : Graph) (n : ℕ) {a m b : ℕ} → joined g a m ≡ true → (m < n) ⊎ (n ≤ m) → m < suc n → Via g n m b ⊎ (Via g n m n × Via g n n b) → Via g n a b ⊎ (Via g n a n × Via g n n b)
split_at g n l (inl h) k (inl v) = inl (over l h v)
split_at g n l (inl h) k (inr p) = inr (over l h p.0, p.1)
split_at g n {a} {m} {b} l (inr h) k (inl v) = let e : m ≡ n = omega arith in let w : Via g n a m = last l in inr (rw e at w, rw e at v)
split_at g n {a} {m} {b} l (inr h) k (inr p) = let e : m ≡ n = omega arith in let w : Via g n a m = last l in inr (rw e at w, p.1)

split : (g : Graph) (n : ℕ) {a b : ℕ} → Via g (suc n) a b → Via g n a b ⊎ (Via g n a n × Via g n n b)
split g n (last l) = inl (last l)
split g n (over {b = m} l h v) = split_at g n l (cases_lt m n) h (split g n v)

via-reach : (g : Graph) (n a b : ℕ) → Via g n a b → reach g n a b ≡ true
via-reach g zero a b (last l) = l
via-reach g zero a b (over l h v) = absurd (omega (arith, h))
via-reach g (suc n) a b v =
    ⊎_elim (λ w. or_left _ _ (via-reach g n a b w))
    (λ p. or_right _ _ (and_from _ _ (via-reach g n a n p.0) (via-reach g n n b p.1)))
    (split g n v)

via-join : {g : Graph} {n a b c : ℕ} → b < n → Via g n a b → Via g n b c → Via g n a c
via-join h (last l) w = over l h w
via-join h (over l k v) w = over l k (via-join h v w)

-- where a chain begins
pub begins : (g : Graph) → Ends g → {a b : ℕ} → Chain g a b → a < g.tasks
begins g E (link k h) = (E k h).0
begins g E (join c d) = begins g E c

chain-via : (g : Graph) → Ends g → {a b : ℕ} → Chain g a b → Via g g.tasks a b
chain-via g E (link k h) = last (link-joined g k h)
chain-via g E (join c d) = via-join (begins g E d) (chain-via g E c) (chain-via g E d)

-- the test for a cycle decides it
pub reach-cycle : (g : Graph) (t : ℕ) → reach g g.tasks t t ≡ true → OnCycle g t
reach-cycle g t e = reach-chain g g.tasks t t e

pub cycle-reach : (g : Graph) → Ends g → (t : ℕ) → OnCycle g t → reach g g.tasks t t ≡ true
cycle-reach g E t c = via-reach g g.tasks t t (chain-via g E c)

pub cyclic-lowest : (g : Graph) → Ends g → cyclic g < g.tasks → LowestOnCycle g (cyclic g)
cyclic-lowest g E h =
    let x = first-is g.tasks (λ t. reach g g.tasks t t) in
    (h, reach-cycle g (cyclic g) (x.2 h), λ u l c. clash (reach g g.tasks u u) (cycle-reach g E u c) (x.1 u l))

pub cyclic-none : (g : Graph) → Ends g → g.tasks ≤ cyclic g → Acyclic g
cyclic-none g E h t c =
    let x = first-is g.tasks (λ t. reach g g.tasks t t) in
    clash (reach g g.tasks t t) (cycle-reach g E t c) (x.1 t (omega (arith, begins g E c)))

pub acyclic-none : (g : Graph) → Acyclic g → cyclic g ≡ g.tasks
acyclic-none g A = sym (first-none g.tasks (λ t. reach g g.tasks t t) (λ t h. false_from_ne_true _ (λ e. A t (reach-cycle g t e))))
