use Rattle.std.proofs.Common.{◌≡◌, ℕ, ◌+◌, ◌<◌, ◌≤◌, true, List, length, take, Ok, Err, sym, refl, ap, ◌∙◌, subst, inl, inr, ⊎_elim, arith}
use Rattle.std.proofs.lemmas.List.{take_all}
use Rattle.std.proofs.lemmas.Bool.Decides.{nat_tests}
use Rattle.loader.specs.declared.faults.RecordsFault.TheVariants.{Bytes, Kind, Length, Tail}
use Rattle.loader.specs.declared.faults.GraphFault.{GraphFault}
use Rattle.loader.specs.declared.faults.GraphFault.TheVariants.{Records, Range, TooMany, Twice}
use Rattle.loader.specs.declared.transfer.Transfer.{Transfer}
use Rattle.refusal.specs.declared.refusal.Refusal.{Refusal}
use Rattle.loader.specs.View.{leads}
use Rattle.loader.specs.Description.{Description}
use Rattle.loader.specs.Bytes.{word_at}
use Rattle.loader.specs.Parse.{header_at, work_at, read_works, next_at, read_transfers, end_at, parse}
use Rattle.loader.specs.Encoding.{TransferAt}
use Rattle.loader.specs.Refusals.{refusal_of}
use Rattle.loader.specs.Refused.{InRange, SoFar, Due, header, task, more, place, end, Fits, Ranged, Before, Whole, Formed, Refused, short, kind, payload, range, many, twice, tail, cycle}
use Rattle.loader.proofs.PairSearch.{leads-hit}
use Rattle.loader.proofs.SingleRecords.{header-reads}
use Rattle.loader.proofs.Reading.{works-stop, transfers-stop}
use Rattle.loader.proofs.WorksRead as works
use Rattle.loader.proofs.TransfersRead as transfers
use Rattle.loader.proofs.Chaining.{ok-err}
use Rattle.loader.proofs.Parsing.{cycle-refused}

module _ (bs : List ℕ) where
  stop-header : (e : GraphFault) → header_at bs ≡ Err e → parse bs ≡ Err e
  stop-header e h = rw h refl

  header_ok : (d : Description) → SoFar bs d → header_at bs ≡ Ok (d.tasks, d.machines)
  header_ok d s = let f = s.first in let y = s.sizes in let i = s.inside in header-reads bs d.tasks d.machines (omega arith) f.0 f.1 f.2 f.3 (y.0, y.1, y.2, y.3)

  works-ok : (d : Description) → SoFar bs d → read_works bs (length d.works) ≡ Ok (take (length d.works) d.works)
  works-ok d s = let i = s.inside in works.works-read bs d.works (length d.works) (omega arith) (refl, s.task) (length d.works) (omega arith)

  stop-task : (d : Description) (e : GraphFault) → Before bs (task d) → work_at bs (place (task d)) ≡ Err e → parse bs ≡ Err e
  stop-task d e b h =
      let w = works-stop bs d.works (length d.works) (works-ok d b.0) d.tasks e b.1 h in
      let x = header_ok d b.0 in
      rw (x, w) refl

  all-works : (d : Description) → Before bs (more d) → read_works bs d.tasks ≡ Ok d.works
  all-works d b = subst (λ (v : ℕ). read_works bs v ≡ Ok d.works) b.1 (works-ok d b.0 ∙ ap (λ (x : List ℕ). Ok x) (take_all (length d.works) d.works (omega arith)))

  shown-all : (d : Description) → Before bs (more d) → transfers.ShownAll bs d.tasks d.transfers
  shown-all d b = let s = b.0 in record { few = s.sizes.4; shown = s.transfer; pairs = s.pairs }

  stop-more : (d : Description) (e : GraphFault) → Before bs (more d) → next_at bs d.tasks d.transfers (place (more d)) ≡ Err e → parse bs ≡ Err e
  stop-more d e b h =
      let z = b.0.inside in
      let q = b.1 in
      let t = transfers-stop bs d.tasks d.transfers (transfers.after-all bs d.tasks d.transfers (shown-all d b) (omega arith)) e b.0.sizes.4 h in
      rw (header_ok d b.0, all-works d b, t) refl

  -- ---- what each rule says is what the tests answer
  short-at : (u : Due) → Before bs u → length bs < end bs u → parse bs ≡ Err (Records (Bytes (record { place = place u })))
  short-at header b l = stop-header _ (grind (arith, nat_tests))
  short-at (task d) b l = stop-task d _ b (grind (arith, nat_tests))
  short-at (more d) b l = stop-more d _ b (grind (arith, nat_tests))

  kind_at : (u : Due) → Whole bs u → ((n : ℕ) → Fits u (word_at bs (place u + 2)) n → ⊥) → parse bs ≡ Err (Records (Kind (place u)))
  kind_at header w f = let x : word_at bs 2 ≡ 1 → ⊥ = λ q. f 4 (q, refl) in let y = w.1 in stop-header _ (grind (arith, nat_tests))
  kind_at (task d) w f = let x : word_at bs (place (task d) + 2) ≡ 2 → ⊥ = λ q. f 2 (q, refl) in let y = w.1 in stop-task d _ w.0 (grind (arith, nat_tests))
  kind_at (more d) w f = let x : word_at bs (place (more d) + 2) ≡ 3 → ⊥ = λ q. f 6 (inl (q, refl)) in let z : word_at bs (place (more d) + 2) ≡ 4 → ⊥ = λ q. f 0 (inr (q, refl)) in let y = w.1 in stop-more d _ w.0 (grind (arith, nat_tests))

  payload-3 : (d : Description) → end bs (more d) ≤ length bs → word_at bs (place (more d) + 2) ≡ 3 → (word_at bs (place (more d)) ≡ 6 → ⊥) → next_at bs d.tasks d.transfers (place (more d)) ≡ Err (Records (Length (place (more d))))
  payload-3 d y f g = grind (arith, nat_tests)

  payload-4 : (d : Description) → end bs (more d) ≤ length bs → word_at bs (place (more d) + 2) ≡ 4 → (word_at bs (place (more d)) ≡ 0 → ⊥) → next_at bs d.tasks d.transfers (place (more d)) ≡ Err (Records (Length (place (more d))))
  payload-4 d y f g = grind (arith, nat_tests)

  payload-at : (u : Due) (n : ℕ) → Whole bs u → Fits u (word_at bs (place u + 2)) n → (word_at bs (place u) ≡ n → ⊥) → parse bs ≡ Err (Records (Length (place u)))
  payload-at header n w f g = let x : word_at bs 0 ≡ 4 → ⊥ = λ q. g (q ∙ sym f.1) in let y = w.1 in stop-header _ (grind (arith, nat_tests))
  payload-at (task d) n w f g = let x : word_at bs (place (task d)) ≡ 2 → ⊥ = λ q. g (q ∙ sym f.1) in let y = w.1 in stop-task d _ w.0 (grind (arith, nat_tests))
  payload-at (more d) n w f g = stop-more d _ w.0 (⊎_elim (λ x. payload-3 d w.1 x.0 (λ q. g (q ∙ sym x.1))) (λ x. payload-4 d w.1 x.0 (λ q. g (q ∙ sym x.1))) f)

  range-header : end bs header ≤ length bs → Fits header (word_at bs 2) (word_at bs 0) → (Ranged bs header → ⊥) → header_at bs ≡ Err (Range 0)
  range-header y f g = grind (arith, nat_tests)

  range-task : (i : ℕ) → i + 4 + word_at bs i ≤ length bs → word_at bs (i + 2) ≡ 2 → word_at bs i ≡ 2 → ((1 ≤ word_at bs (i + 4)) × (word_at bs (i + 4) ≤ 1000) → ⊥) → work_at bs i ≡ Err (Range i)
  range-task i y f k g = grind (arith, nat_tests)

  range-more : (n : ℕ) (ts : List Transfer) (i : ℕ) → i + 4 + word_at bs i ≤ length bs → word_at bs (i + 2) ≡ 3 → word_at bs i ≡ 6 → (InRange n (record { from = word_at bs (i + 4); to = word_at bs (i + 6); cost = word_at bs (i + 8) }) → ⊥) → next_at bs n ts i ≡ Err (Range i)
  range-more n ts i y f k g = grind (arith, nat_tests)

  range_at : (u : Due) → Formed bs u → (Ranged bs u → ⊥) → parse bs ≡ Err (Range (place u))
  range_at header w g = stop-header _ (range-header w.0.1 w.1 g)
  range_at (task d) w g = stop-task d _ w.0.0 (range-task (place (task d)) w.0.1 w.1.0 w.1.1 (λ q. g (λ v t. subst (λ (x : ℕ). (1 ≤ x) × (x ≤ 1000)) t.2 q)))
  range_at (more d) w g = ⊎_elim
      (λ x. stop-more d _ w.0.0 (range-more d.tasks d.transfers (place (more d)) w.0.1 x.0 x.1 (λ q. g (λ v t. (subst (λ (x : ℕ). x < d.tasks) t.2 q.0, subst (λ (x : ℕ). x < d.tasks) t.3 q.1, subst (λ (x : ℕ). x ≤ 1000) t.4 q.2, λ e. q.3 (t.2 ∙ (e ∙ sym t.3)))))))
      (λ x. absurd (g (λ v t. absurd (omega (arith, t.1, x.0)))))
      w.1

  many-next : (n : ℕ) (ts : List Transfer) (i : ℕ) (t : Transfer) → i + 4 + word_at bs i ≤ length bs → TransferAt bs i t → InRange n t → length ts ≡ 128 → next_at bs n ts i ≡ Err (TooMany i)
  many-next n ts i t y m r l = grind (arith, nat_tests)

  twice-next : (n : ℕ) (ts : List Transfer) (i : ℕ) (t : Transfer) → i + 4 + word_at bs i ≤ length bs → TransferAt bs i t → InRange n t → length ts < 128 → leads ts t.from t.to ≡ true → next_at bs n ts i ≡ Err (Twice i)
  twice-next n ts i t y m r l e = grind (arith, nat_tests)

  tail-next : (i : ℕ) → i < length bs → end_at bs i ≡ Err (Records (Tail i))
  tail-next i h = grind (arith, nat_tests)

  -- what the law refuses is what the tests answer
  answered : (r : Refusal) → Refused bs r → (e : GraphFault) × (parse bs ≡ Err e) × (refusal_of e ≡ r)
  answered r (short u b l) = (_, short-at u b l, refl)
  answered r (kind u w f) = (_, kind_at u w f, refl)
  answered r (payload u n w f g) = (_, payload-at u n w f g, refl)
  answered r (range u w g) = (_, range_at u w g, refl)
  answered r (many d t s l) = (_, stop-more d _ s.0.0 (many-next d.tasks d.transfers (place (more d)) t s.0.1 s.1 s.2 l), refl)
  answered r (twice d t k s l h f g) = (_, stop-more d _ s.0.0 (twice-next d.tasks d.transfers (place (more d)) t s.0.1 s.1 s.2 l (leads-hit d.transfers k t.from t.to h f g)), refl)
  answered r (tail d w m h) =
      let b = w.0 in
      let n = d.tasks in
      let ts = d.transfers in
      let t : read_transfers bs n ≡ Ok ts = transfers.transfers-read bs n ts (shown-all d b) (m, omega arith) in
      (Records (Tail (place (more d) + 4)), rw (header_ok d b.0, all-works d b, t, tail-next (place (more d) + 4) h) refl, refl)
  answered r (cycle d t s l low) = (_, cycle-refused bs d t s l low, refl)

  pub refused-only : (e : GraphFault) → parse bs ≡ Err e → (r : Refusal) → Refused bs r → refusal_of e ≡ r
  refused-only e h r R = let x = answered r R in let q : e ≡ x.0 = let y = x.1 in cc in ap refusal_of q ∙ x.2

  pub refused-never : (d : Description) → parse bs ≡ Ok d → (r : Refusal) → Refused bs r → ⊥
  refused-never d h r R = let x = answered r R in ok-err d x.0 (sym h ∙ x.1)
