use Rattle.std.proofs.Common.{◌≡◌, ℕ, zero, suc, ◌+◌, ◌*◌, ◌<◌, ◌≤◌, false, List, [], ◌∷◌, ◌++◌, length, get_or, take, Ok, Err, Result, sym, refl, ap, ◌∙◌, subst, ⊎_elim, add-one, arith, length-take-le, Some, None, Option}
use Rattle.std.proofs.lemmas.Bool.{cases_lt, both_ways}
use Rattle.std.proofs.lemmas.List.{get_or_append_left, get_or_push, length_push, take_more, take_all}
use Rattle.loader.specs.declared.faults.GraphFault.{GraphFault}
use Rattle.loader.specs.declared.transfer.Transfer.{Transfer}
use Rattle.loader.specs.View.{blank, leads}
use Rattle.loader.specs.Layout.{place_of}
use Rattle.loader.specs.Parse.{next_at, Progress, reading, ended, refused, taken, step, after, finish, read_transfers}
use Rattle.loader.specs.Encoding.{RecordAt, TransferAt}
use Rattle.loader.specs.Refused.{InRange}
use Rattle.loader.proofs.PairSearch.{leads-hit, pair-new}
use Rattle.loader.proofs.SingleRecords.{transfer-reads, end_reads, transfer-told, transfer-range, transfer-new, end-told}
use Rattle.loader.proofs.Reading.{next-inside, end-inside, stepped, transfers-end}

-- two places of the list that have one pair
abbrev pub Twin : List Transfer → ℕ → ℕ → Type 0
Twin ts i j = (i < j) × (j < length ts) × ((get_or ts i blank).from ≡ (get_or ts j blank).from) × ((get_or ts i blank).to ≡ (get_or ts j blank).to)

module _ (bs : List ℕ) (n : ℕ) where
  -- the record of transfer k gives t
  abbrev pub Shown : ℕ → Transfer → Type 0
  Shown k t = TransferAt bs (place_of n k) t × InRange n t

  pub record ShownAll (ts : List Transfer) : Type 0 where
    pub few : length ts ≤ 128
    pub shown : (k : ℕ) → k < length ts → Shown k (get_or ts k blank)
    pub pairs : (i j : ℕ) → Twin ts i j → ⊥

  -- and then the last record follows
  abbrev pub Closed : List Transfer → Type 0
  Closed ts = RecordAt bs (place_of n (length ts)) 4 0 × (place_of n (length ts) + 4 ≤ length bs)

  pub shown-none : ShownAll []
  shown-none = record { few = omega arith; shown = λ k h. absurd (omega (arith, h)); pairs = λ i j s. omega (arith, s.1) }

  push : (ts : List Transfer) (t : Transfer) → ShownAll ts → length ts < 128 → Shown (length ts) t → leads ts t.from t.to ≡ false → ShownAll (ts ++ t ∷ [])
  push ts t f h m new =
      let l = length_push ts t in
      record {
        few = omega arith;
        shown = λ k lt. ⊎_elim
            (λ in'. let d : get_or (ts ++ t ∷ []) k blank ≡ get_or ts k blank = get_or_append_left ts (t ∷ []) blank k in' in subst (Shown k) (sym d) (f.shown k in'))
            (λ ge. let q : length ts ≡ k = omega arith in
            let d : get_or (ts ++ t ∷ []) k blank ≡ t = get_or_push ts t blank k q in
            subst (Shown k) (sym d) (subst (λ (v : ℕ). Shown v t) q m))
            (cases_lt k (length ts));
        pairs = λ i j s.
            let e : get_or (ts ++ t ∷ []) i blank ≡ get_or ts i blank = get_or_append_left ts (t ∷ []) blank i (omega (arith, s.0, s.1)) in
            ⊎_elim
            (λ lt. let d : get_or (ts ++ t ∷ []) j blank ≡ get_or ts j blank = get_or_append_left ts (t ∷ []) blank j lt in
            f.pairs i j (s.0, lt, ap (λ (x : Transfer). x.from) (sym e) ∙ (s.2 ∙ ap (λ (x : Transfer). x.from) d), ap (λ (x : Transfer). x.to) (sym e) ∙ (s.3 ∙ ap (λ (x : Transfer). x.to) d)))
            (λ ge. let d : get_or (ts ++ t ∷ []) j blank ≡ t = get_or_push ts t blank j (omega (arith, s.1)) in
            both_ways _ new (leads-hit ts i t.from t.to (omega (arith, s.0, s.1))
            (ap (λ (x : Transfer). x.from) (sym e) ∙ (s.2 ∙ ap (λ (x : Transfer). x.from) d)) (ap (λ (x : Transfer). x.to) (sym e) ∙ (s.3 ∙ ap (λ (x : Transfer). x.to) d))))
            (cases_lt j (length ts));
      }

-- what is read stands in the records, and they are whole
module _ (bs : List ℕ) (n : ℕ) (tasks-inside : 8 + 6 * n ≤ length bs) where
  abbrev pub Told : ℕ → Progress → Type 0
  Told k (reading ts) = ShownAll bs n ts × (length ts ≡ k) × (place_of n (length ts) ≤ length bs)
  Told k (ended ts) = ShownAll bs n ts × Closed bs n ts
  Told k (refused e) = Unit {0}

  taken-told : (ts : List Transfer) (r : Result (Option Transfer) GraphFault) → next_at bs n ts (place_of n (length ts)) ≡ r → ShownAll bs n ts → Told (suc (length ts)) (taken ts r)
  taken-told ts (Ok None) e f = (f, (end-told bs n ts (place_of n (length ts)) e, end-inside bs n ts (place_of n (length ts)) e))
  taken-told ts (Ok (Some t)) e f =
      let i = place_of n (length ts) in
      let h = next-inside bs n ts i t e in
      let l = length_push ts t in
      (push bs n ts t f h.1 (transfer-told bs n ts i t e, transfer-range bs n ts i t e) (transfer-new bs n ts i t e), omega arith, omega arith)
  taken-told ts (Err x) e f = tt

  step-told : (k : ℕ) (p : Progress) → Told k p → Told (suc k) (step bs n p)
  step-told k (reading ts) f = subst (λ (v : ℕ). Told (suc v) (taken ts (next_at bs n ts (place_of n (length ts))))) f.1 (taken-told ts (next_at bs n ts (place_of n (length ts))) refl f.0)
  step-told k (ended ts) f = f
  step-told k (refused e) f = tt

  pub after-told : (k : ℕ) → Told k (after bs n k)
  after-told zero = (shown-none bs n, refl, omega arith)
  after-told (suc k) = step-told k (after bs n k) (after-told k)

  finish-told : (k : ℕ) (p : Progress) (ts : List Transfer) → Told k p → finish p ≡ Ok ts → ShownAll bs n ts × Closed bs n ts
  finish-told k (reading us) ts f e = absurd (let z : ◌≡◌ {A = ℕ} 0 1 = cc in omega arith)
  finish-told k (ended us) ts f e = let s : us ≡ ts = cc in subst (λ (v : List Transfer). ShownAll bs n v × Closed bs n v) s f
  finish-told k (refused x) ts f e = absurd (let z : ◌≡◌ {A = ℕ} 0 1 = cc in omega arith)

  pub transfers-told : (ts : List Transfer) → read_transfers bs n ≡ Ok ts → ShownAll bs n ts × Closed bs n ts
  transfers-told ts e = finish-told 129 (after bs n 129) ts (after-told 129) e

-- what stands in the records is read
module _ (bs : List ℕ) (n : ℕ) (ts : List Transfer) (s : ShownAll bs n ts) (z : place_of n (length ts) ≤ length bs) where
  pub after-shown : (k : ℕ) → k ≤ length ts → after bs n k ≡ reading (take k ts)
  after-shown zero h = refl
  after-shown (suc k) h =
      let lt : k < length ts = omega arith in
      let t = get_or ts k blank in
      let y = s.few in
      let l = length-take-le k ts (omega arith) in
      let x = s.shown k lt in
      let e = transfer-reads bs n (take k ts) (place_of n k) t (omega arith) x.0 x.1 (omega arith) (pair-new ts k lt s.pairs) in
      let m : take (suc k) ts ≡ take k ts ++ t ∷ [] = rw add-one at (take_more ts k blank lt) in
      let d : after bs n (suc k) ≡ reading (take k ts ++ t ∷ []) = rw l at (stepped bs n (take k ts) (rw l (after-shown k (omega arith))) (Ok (Some t)) (ap (λ (v : ℕ). next_at bs n (take k ts) (place_of n v)) l ∙ e)) in
      d ∙ ap (λ (x : List Transfer). reading x) (sym m)

  pub after-all : after bs n (length ts) ≡ reading ts
  after-all = after-shown (length ts) (omega arith) ∙ ap (λ (x : List Transfer). reading x) (take_all (length ts) ts (omega arith))

module _ (bs : List ℕ) (n : ℕ) (ts : List Transfer) (s : ShownAll bs n ts) (c : Closed bs n ts) where
  pub transfers-read : read_transfers bs n ≡ Ok ts
  transfers-read = let z = c.1 in transfers-end bs n ts (after-all bs n ts s (omega arith)) s.few (end_reads bs n ts (place_of n (length ts)) c.1 c.0)
