use Rattle.std.proofs.Common.{◌≡◌, ℕ, zero, suc, ◌+◌, ◌<◌, ◌≤◌, cond, eqb, List, [], ◌∷◌, ◌++◌, length, set, sym, refl, ap, ◌∙◌, le_of_suc-le-suc, not-suc-le-zero, add-one, arith, get_or-set_other, get_or-set_same}
use native.Mathlib.Decide.{ℕ_discrete}
use Rattle.std.proofs.lemmas.Bool.{eq-eqb, ne_eqb}
use Rattle.chain.specs.declared.cell.Cell.{Cell}
use Rattle.chain.specs.Cells.{blank, after, entry_at, onward, walk, entries_at, occurs}

-- counting numbers in lists

pub once-here : (x y : ℕ) → x ≡ y → ◌≡◌ {A = ℕ} (cond (eqb x y) 1 0) 1
once-here x y e = let p = eq-eqb x y e in simp p

pub not-here : (x y : ℕ) → (x ≡ y → ⊥) → ◌≡◌ {A = ℕ} (cond (eqb x y) 1 0) 0
not-here x y n = let p = ne_eqb x y n in simp p

-- what does not occur behind a number that is not it
absent : (i j : ℕ) (l : List ℕ) → occurs i (j ∷ l) ≡ 0 → j ≡ i → ⊥
absent i j l h e = omega (arith, once-here i j (sym e))

pub occurs-append : (x : ℕ) (ys zs : List ℕ) → occurs x (ys ++ zs) ≡ occurs x ys + occurs x zs
occurs-append x [] zs = omega arith
occurs-append x (y ∷ ys) zs = let ih = occurs-append x ys zs in omega arith

-- walks after a store

after-other : (cells : List Cell) (i : ℕ) (c : Cell) (at : ℕ) → (at ≡ i → ⊥) → after (set cells i c) at ≡ after cells at
after-other cells i c at n = ap (λ (k : Cell). k.next) (get_or-set_other cells i at c blank n)

pub walk-other : (cells : List Cell) (i : ℕ) (c : Cell) (n at : ℕ) → occurs i (walk cells n at) ≡ 0 → walk (set cells i c) n at ≡ walk cells n at
walk-other cells i c zero at h = refl
walk-other cells i c (suc n) at h =
    ap (λ (l : List ℕ). at ∷ l) (ap (walk (set cells i c) n) (after-other cells i c at (absent i at (walk cells n (after cells at)) h)) ∙ walk-other cells i c n (after cells at) (omega arith))

pub entries-other : (cells : List Cell) (i : ℕ) (c : Cell) (is : List ℕ) → occurs i is ≡ 0 → entries_at (set cells i c) is ≡ entries_at cells is
entries-other cells i c [] h = refl
entries-other cells i c (j ∷ js) h =
    let a : entry_at (set cells i c) j ≡ entry_at cells j = ap (λ (k : Cell). k.entry) (get_or-set_other cells i j c blank (absent i j js h)) in
    let b = entries-other cells i c js (omega arith) in
    (λ t. a t ∷ b t)

-- a store that keeps the entry
pub entries-same : (cells : List Cell) (i : ℕ) (c : Cell) (is : List ℕ) → i < length cells → c.entry ≡ entry_at cells i → entries_at (set cells i c) is ≡ entries_at cells is
entries-same cells i c [] h e = refl
entries-same cells i c (j ∷ js) h e =
    let a : entry_at (set cells i c) j ≡ entry_at cells j = elim (ℕ_discrete j i) [
      | yes q ↦ ap (entry_at (set cells i c)) q ∙ ap (λ (k : Cell). k.entry) (get_or-set_same cells i c blank h) ∙ e ∙ ap (entry_at cells) (sym q)
      | no n ↦ ap (λ (k : Cell). k.entry) (get_or-set_other cells i j c blank n)
    ] in
    let b = entries-same cells i c js h e in
    (λ t. a t ∷ b t)

-- steps along a walk

pub onward-met : (xs : List Cell) (k n at : ℕ) → k < n → 1 ≤ occurs (onward xs k at) (walk xs n at)
onward-met xs k zero at h = absurd (not-suc-le-zero h)
onward-met xs zero (suc n) at h = omega (arith, once-here at at refl)
onward-met xs (suc k) (suc n) at h = omega (arith, onward-met xs k n (after xs at) (le_of_suc-le-suc h))

pub onward-more : (xs : List Cell) (k at : ℕ) → onward xs (suc k) at ≡ after xs (onward xs k at)
onward-more xs zero at = refl
onward-more xs (suc k) at = onward-more xs k (after xs at)

pub step-more : (xs : List Cell) (k h at : ℕ) → at ≡ onward xs k h → after xs at ≡ onward xs (k + 1) h
step-more xs k h at e = ap (after xs) e ∙ sym (onward-more xs k h) ∙ ap (λ (n : ℕ). onward xs n h) (sym (add-one k))

-- a walk along cells that each name the one behind it in memory
pub strung-walk : (xs : List Cell) (m at : ℕ) → ((k : ℕ) → at ≤ k → k < at + m → after xs k ≡ k + 1) → (x : ℕ)
    → (occurs x (walk xs m at) ≤ 1) × (x < at → occurs x (walk xs m at) ≡ 0) × (at + m ≤ x → occurs x (walk xs m at) ≡ 0)
strung-walk xs zero at h x = (omega arith, λ p. refl, λ p. refl)
strung-walk xs (suc m) at h x =
    let ih = strung-walk xs m (at + 1) (λ k p q. h k (omega arith) (omega arith)) x in
    let w : occurs x (walk xs m (after xs at)) ≡ occurs x (walk xs m (at + 1)) = ap (λ (a : ℕ). occurs x (walk xs m a)) (h at (omega arith) (omega arith)) in
    elim (ℕ_discrete x at) [
      | yes e ↦ let s = once-here x at e in let z = ih.1 (omega arith) in (omega arith, λ p. absurd (omega arith), λ p. absurd (omega arith))
      | no n ↦ let s = not-here x at n in (omega (arith, ih.0), λ p. omega (arith, ih.1 (omega arith)), λ p. omega (arith, ih.2 (omega arith)))
    ]
