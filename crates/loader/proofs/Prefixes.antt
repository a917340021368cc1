use Rattle.std.proofs.Common.{◌≡◌, ℕ, zero, suc, ◌+◌, ◌*◌, ◌<◌, ◌≤◌, true, List, length, get_or, take, Ok, Err, Result, refl, ap, ◌∙◌, arith, length-take-le, get_or-take}
use native.Mathlib.Decide.{dec_lt}
use Rattle.std.proofs.lemmas.List.{take_all}
use Rattle.std.proofs.lemmas.Bool.Decides.{nat_tests}
use Rattle.loader.specs.declared.transfer.Transfer.{Transfer}
use Rattle.loader.specs.Layout.{place_of}
use Rattle.loader.specs.Chaining.{and_then}
use Rattle.loader.specs.Bytes.{word_at, whole}
use Rattle.loader.specs.Parse.{header_at, work_at, read_works, next_at, Progress, reading, ended, refused, taken, step, after, finish, read_transfers, end_at, decode, cycle_test, parse}
use Rattle.loader.specs.Prefix.{longest_prefix, Decides}
use Rattle.loader.proofs.SingleRecords.{header-range}
use Rattle.loader.proofs.TransfersRead.{Told, after-told, transfers-told}

and_then-same : {A B E : Type 0} (r s : Result A E) (f g : A → Result B E) → r ≡ s → ((x : A) → s ≡ Ok x → f x ≡ g x) → and_then r f ≡ and_then s g
and_then-same r (Ok x) f g e h = rw e (h x refl)
and_then-same r (Err d) f g e h = rw e refl

-- two inputs that agree in their first n bytes, both at least so long
module _ (xs ys : List ℕ) (n : ℕ) (enough : longest_prefix ≤ n) (x-long : n ≤ length xs) (y-long : n ≤ length ys)
    (same : (k : ℕ) → k < n → get_or xs k 0 ≡ get_or ys k 0) (byte : (k : ℕ) → k < n → get_or xs k 0 < 256) where
  word-same : (i : ℕ) → i + 1 < n → word_at xs i ≡ word_at ys i
  word-same i h = rw (same i (omega arith), same (i + 1) h) refl

  word-small : (i : ℕ) → i + 1 < n → word_at xs i ≤ 65535
  word-small i h = omega (arith, byte i (omega arith), byte (i + 1) h)

  -- a record is whole, wherever it may begin
  whole-x : (i : ℕ) → i ≤ place_of 32 128 → whole xs i ≡ true
  whole-x i h = let w = word-small i (omega arith) in grind (arith, nat_tests)

  whole-y : (i : ℕ) → i ≤ place_of 32 128 → whole ys i ≡ true
  whole-y i h = let w = word-small i (omega arith) in let e = word-same i (omega arith) in grind (arith, nat_tests)

  header-same : header_at xs ≡ header_at ys
  header-same = grind (arith, nat_tests, whole-x 0 (omega arith), whole-y 0 (omega arith), word-same 0 (omega arith), word-same 2 (omega arith), word-same 4 (omega arith), word-same 6 (omega arith))

  work-same : (i : ℕ) → i ≤ place_of 32 0 → work_at xs i ≡ work_at ys i
  work-same i h = grind (arith, nat_tests, whole-x i (omega arith), whole-y i (omega arith), word-same i (omega arith), word-same (i + 2) (omega arith), word-same (i + 4) (omega arith))

  next-same : (m : ℕ) (ts : List Transfer) (i : ℕ) → i ≤ place_of 32 128 → next_at xs m ts i ≡ next_at ys m ts i
  next-same m ts i h = rw (whole-x i h, whole-y i h, word-same i (omega arith), word-same (i + 2) (omega arith), word-same (i + 4) (omega arith), word-same (i + 6) (omega arith), word-same (i + 8) (omega arith)) refl

  works-same : (k : ℕ) → k ≤ 32 → read_works xs k ≡ read_works ys k
  works-same zero h = refl
  works-same (suc k) h = rw (works-same k (omega arith), work-same (8 + 6 * k) (omega arith)) refl

  module _ (m : ℕ) (few : m ≤ 32) where
    inside : 8 + 6 * m ≤ length ys
    inside = omega arith

    step-same : (k : ℕ) (p : Progress) → Told ys m inside k p → step xs m p ≡ step ys m p
    step-same k (reading ts) t = let l = t.0.few in ap (taken ts) (next-same m ts (place_of m (length ts)) (omega arith))
    step-same k (ended ts) t = refl
    step-same k (refused e) t = refl

    after-same : (k : ℕ) → after xs m k ≡ after ys m k
    after-same zero = refl
    after-same (suc k) = ap (step xs m) (after-same k) ∙ step-same k (after ys m k) (after-told ys m inside k)

  end-same : (i : ℕ) → i ≤ place_of 32 128 + 4 → end_at xs i ≡ end_at ys i
  end-same i h = grind (arith, nat_tests)

  decode-same : decode xs ≡ decode ys
  decode-same = and_then-same (header_at xs) (header_at ys) _ _ header-same (λ h e.
      let few = (header-range ys h.0 h.1 e).1 in
      and_then-same (read_works xs h.0) (read_works ys h.0) _ _ (works-same h.0 few) (λ _ _.
      and_then-same (read_transfers xs h.0) (read_transfers ys h.0) _ _ (ap finish (after-same h.0 few 129)) (λ ts e.
      let i = place_of h.0 (length ts) + 4 in
      let f = (transfers-told ys h.0 (omega arith) ts e).0.few in
      and_then-same (end_at xs i) (end_at ys i) _ _ (end-same i (omega arith)) (λ _ _. refl))))

  pub parse-same : parse xs ≡ parse ys
  parse-same = ap (λ r. and_then r cycle_test) decode-same

pub decides : Decides longest_prefix
decides bs byte =
    let n = longest_prefix in
    elim (dec_lt n (length bs)) [
      | yes h ↦ let l = length-take-le n bs (omega arith) in
          parse-same (take n bs) bs n (omega arith) (omega arith) (omega arith) (λ k g. get_or-take n bs k 0 g) (λ k g. byte k 0 (omega arith))
      | no h ↦ ap parse (take_all n bs (omega (arith, h)))
    ]
