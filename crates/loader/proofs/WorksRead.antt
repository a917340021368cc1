use Rattle.std.proofs.Common.{◌≡◌, ℕ, zero, suc, ◌+◌, ◌*◌, ◌<◌, ◌≤◌, List, [], ◌∷◌, ◌++◌, length, get_or, take, Ok, Result, sym, refl, ap, ◌∙◌, subst, ⊎_elim, add-one, arith}
use Rattle.std.proofs.lemmas.Bool.{cases_lt}
use Rattle.std.proofs.lemmas.List.{get_or_append_left, get_or_push, length_push, take_more}
use Rattle.loader.specs.declared.faults.GraphFault.{GraphFault}
use Rattle.loader.specs.Chaining.{and_then}
use Rattle.loader.specs.Parse.{work_at, read_works}
use Rattle.loader.specs.Encoding.{TaskAt}
use Rattle.loader.specs.Refused.{WorkInRange}
use Rattle.loader.proofs.Chaining.{and_then-ok}
use Rattle.loader.proofs.SingleRecords.{work-reads, work-told, work-range}
use Rattle.loader.proofs.Reading.{work-inside, works-next}

-- the record of task k gives this work
abbrev pub Shown : List ℕ → ℕ → ℕ → Type 0
Shown bs k w = TaskAt bs (8 + 6 * k) w × WorkInRange w

abbrev pub ShownAll : List ℕ → ℕ → List ℕ → Type 0
ShownAll bs n ws = (length ws ≡ n) × ((k : ℕ) → k < n → Shown bs k (get_or ws k 0))

push : (bs : List ℕ) (k w : ℕ) (ws : List ℕ) → ShownAll bs k ws → Shown bs k w → ShownAll bs (suc k) (ws ++ w ∷ [])
push bs k w ws g r = (
  omega (arith, length_push ws w),
  λ j h. ⊎_elim
      (λ lt. let e : get_or (ws ++ w ∷ []) j 0 ≡ get_or ws j 0 = get_or_append_left ws (w ∷ []) 0 j (omega arith) in subst (Shown bs j) (sym e) (g.1 j lt))
      (λ ge. let e : get_or (ws ++ w ∷ []) j 0 ≡ w = get_or_push ws w 0 j (omega arith) in
      let q : k ≡ j = omega arith in
      subst (Shown bs j) (sym e) (subst (λ (v : ℕ). Shown bs v w) q r))
      (cases_lt j k),
)

-- what is read stands in the records
pub works-told : (bs : List ℕ) (k : ℕ) (ws : List ℕ) → read_works bs k ≡ Ok ws → ShownAll bs k ws
works-told bs zero ws e = let z : ws ≡ [] = cc in rw z (refl, λ j h. absurd (omega (arith, h)))
works-told bs (suc k) ws e =
    let p = and_then-ok (read_works bs k) (λ vs. and_then (work_at bs (8 + 6 * k)) (λ w. Ok (vs ++ w ∷ []))) ws e in
    let q = and_then-ok (work_at bs (8 + 6 * k)) (λ w. Ok (p.0 ++ w ∷ [])) ws p.2 in
    let s : p.0 ++ q.0 ∷ [] ≡ ws = let h = q.2 in cc in
    subst (ShownAll bs (suc k)) s (push bs k q.0 p.0 (works-told bs k p.0 p.1) (work-told bs (8 + 6 * k) q.0 q.1, work-range bs (8 + 6 * k) q.0 q.1))

pub works-inside : (bs : List ℕ) (k : ℕ) (ws : List ℕ) → 8 ≤ length bs → read_works bs k ≡ Ok ws → 8 + 6 * k ≤ length bs
works-inside bs zero ws h e = omega arith
works-inside bs (suc k) ws h e =
    let p = and_then-ok (read_works bs k) (λ vs. and_then (work_at bs (8 + 6 * k)) (λ w. Ok (vs ++ w ∷ []))) ws e in
    let q = and_then-ok (work_at bs (8 + 6 * k)) (λ w. Ok (p.0 ++ w ∷ [])) ws p.2 in
    omega (arith, work-inside bs (8 + 6 * k) q.0 q.1)

-- what stands in the records is read
pub works-read : (bs ws : List ℕ) (n : ℕ) → 8 + 6 * n ≤ length bs → ShownAll bs n ws → (k : ℕ) → k ≤ n → read_works bs k ≡ Ok (take k ws)
works-read bs ws n b s zero h = refl
works-read bs ws n b s (suc k) h =
    let x = s.1 k (omega arith) in
    let l = s.0 in
    let e = work-reads bs (8 + 6 * k) (get_or ws k 0) (omega arith) x.0 x.1 in
    let m : take (suc k) ws ≡ take k ws ++ get_or ws k 0 ∷ [] = rw add-one at (take_more ws k 0 (omega arith)) in
    works-next bs k (take k ws) (works-read bs ws n b s k (omega arith)) ∙ (ap (λ (r : Result ℕ GraphFault). and_then r (λ x. Ok (take k ws ++ x ∷ []))) e ∙ ap (λ (x : List ℕ). Ok x) (sym m))
