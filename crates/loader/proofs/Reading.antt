use Rattle.std.proofs.Common.{◌≡◌, ℕ, zero, suc, ◌+◌, ◌-◌, ◌*◌, ◌<◌, ◌≤◌, List, [], ◌∷◌, ◌++◌, length, take, set, Ok, Err, Result, refl, ap, ◌∙◌, add-zero, add-suc, add-one, arith, take-suc-set, Some, None, Option}
use Rattle.std.proofs.lemmas.List.{length_push}
use Rattle.std.proofs.lemmas.Bool.Decides.{nat_tests}
use Rattle.loader.specs.declared.faults.GraphFault.{GraphFault}
use Rattle.loader.specs.declared.transfer.Transfer.{Transfer}
use Rattle.loader.specs.Chaining.{and_then}
use Rattle.loader.specs.Layout.{place_of}
use Rattle.loader.specs.Parse.{work_at, read_works, next_at, reading, ended, refused, taken, step, after, finish, read_transfers}

-- ---- the works

-- the record of a task is whole
pub work-inside : (bs : List ℕ) (i w : ℕ) → work_at bs i ≡ Ok w → i + 6 ≤ length bs
work-inside bs i w e = grind (arith, nat_tests)

pub works-next : (bs : List ℕ) (k : ℕ) (ws : List ℕ) → read_works bs k ≡ Ok ws → read_works bs (suc k) ≡ and_then (work_at bs (8 + 6 * k)) (λ w. Ok (ws ++ w ∷ []))
works-next bs k ws e = rw e refl

works-err : (bs : List ℕ) (k : ℕ) (e : GraphFault) (d : ℕ) → read_works bs k ≡ Err e → read_works bs (k + d) ≡ Err e
works-err bs k e zero h = rw add-zero h
works-err bs k e (suc d) h = rw (add-suc, works-err bs k e d h) refl

module _ (bs works : List ℕ) (i : ℕ) (so : read_works bs i ≡ Ok (take i works)) where
  pub works-more : (w : ℕ) → i < length works → work_at bs (8 + 6 * i) ≡ Ok w → read_works bs (i + 1) ≡ Ok (take (i + 1) (set works i w))
  works-more w h e = rw (add-one, works-next bs i (take i works) so, e, take-suc-set) refl

  pub works-stop : (n : ℕ) (e : GraphFault) → i < n → work_at bs (8 + 6 * i) ≡ Err e → read_works bs n ≡ Err e
  works-stop n e h t =
      let s : read_works bs (suc i) ≡ Err e = rw (works-next bs i (take i works) so, t) refl in
      let m : suc i + (n - suc i) ≡ n = omega arith in
      rw m at (works-err bs (suc i) e (n - suc i) s)

-- ---- the transfers

-- a transfer is whole, and there is room for it
pub next-inside : (bs : List ℕ) (n : ℕ) (ts : List Transfer) (i : ℕ) (t : Transfer) → next_at bs n ts i ≡ Ok (Some t) → (i + 10 ≤ length bs) × (length ts < 128)
next-inside bs n ts i t e = (grind (arith, nat_tests), grind (arith, nat_tests))

-- the last record is whole
pub end-inside : (bs : List ℕ) (n : ℕ) (ts : List Transfer) (i : ℕ) → next_at bs n ts i ≡ Ok None → i + 4 ≤ length bs
end-inside bs n ts i e = grind (arith, nat_tests)

after-ended : (bs : List ℕ) (n k : ℕ) (ts : List Transfer) (d : ℕ) → after bs n k ≡ ended ts → after bs n (k + d) ≡ ended ts
after-ended bs n k ts zero h = rw add-zero h
after-ended bs n k ts (suc d) h = rw (add-suc, after-ended bs n k ts d h) refl

after-refused : (bs : List ℕ) (n k : ℕ) (e : GraphFault) (d : ℕ) → after bs n k ≡ refused e → after bs n (k + d) ≡ refused e
after-refused bs n k e zero h = rw add-zero h
after-refused bs n k e (suc d) h = rw (add-suc, after-refused bs n k e d h) refl

module _ (bs : List ℕ) (n : ℕ) (ts : List Transfer) (so : after bs n (length ts) ≡ reading ts) where
  pub stepped : (r : Result (Option Transfer) GraphFault) → next_at bs n ts (place_of n (length ts)) ≡ r → after bs n (suc (length ts)) ≡ taken ts r
  stepped r e = ap (step bs n) so ∙ ap (taken ts) e

  pub transfers-more : (t : Transfer) → next_at bs n ts (place_of n (length ts)) ≡ Ok (Some t) → after bs n (length (ts ++ t ∷ [])) ≡ reading (ts ++ t ∷ [])
  transfers-more t e = let l : length (ts ++ t ∷ []) ≡ suc (length ts) = omega (arith, length_push ts t) in rw l (stepped (Ok (Some t)) e)

  pub transfers-end : length ts ≤ 128 → next_at bs n ts (place_of n (length ts)) ≡ Ok None → read_transfers bs n ≡ Ok ts
  transfers-end h e =
      let m : suc (length ts) + (128 - length ts) ≡ 129 = omega arith in
      ap finish (rw m at (after-ended bs n (suc (length ts)) ts (128 - length ts) (stepped (Ok None) e)))

  pub transfers-stop : (x : GraphFault) → length ts ≤ 128 → next_at bs n ts (place_of n (length ts)) ≡ Err x → read_transfers bs n ≡ Err x
  transfers-stop x h e =
      let m : suc (length ts) + (128 - length ts) ≡ 129 = omega arith in
      ap finish (rw m at (after-refused bs n (suc (length ts)) x (128 - length ts) (stepped (Err x) e)))
