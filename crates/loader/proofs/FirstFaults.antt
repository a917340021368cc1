use Rattle.std.proofs.Common.{◌≡◌, ℕ, ◌+◌, ◌≤◌, Bool, true, false, cond, ◌&&◌, eqb, ltb, leb, List, length, Ok, Err, Result, sym, refl, ap, ◌∙◌, subst, inl, inr, ⊎_elim, arith, None, Some}
use Rattle.std.proofs.lemmas.Bool.{cond_both, and_cases, eqb-true, eqb-false, ltb-true, ltb-false, leb-false}
use Rattle.std.proofs.lemmas.Bool.Decides.{nat_tests}
use Rattle.loader.specs.declared.records.Head.{Head}
use Rattle.loader.specs.declared.faults.RecordsFault.{RecordsFault}
use Rattle.loader.specs.declared.faults.RecordsFault.TheVariants.{Bytes}
use Rattle.loader.specs.declared.faults.GraphFault.{GraphFault}
use Rattle.loader.specs.declared.faults.GraphFault.TheVariants.{Records}
use Rattle.loader.specs.declared.transfer.Transfer.{Transfer}
use Rattle.loader.specs.View.{leads}
use Rattle.loader.specs.Description.{Description}
use Rattle.loader.specs.Bytes.{word_at, whole, head_at}
use Rattle.loader.specs.Chaining.{and_then, lifted}
use Rattle.loader.specs.Records.{payload_of, due_at, more_at}
use Rattle.loader.specs.Parse.{within, in_range, header_at, work_at, transfer_at, next_at, end_at}
use Rattle.loader.specs.Encoding.{RecordAt, TransferAt}
use Rattle.loader.specs.Refusals.{refusal_of}
use Rattle.loader.specs.Refused.{InRange, Due, header, task, more, place, end, Fits, Before, Whole, Sound, Refused, short, kind, payload, range, many, twice, tail}
use Rattle.loader.proofs.PairSearch.{leads-at}

-- the fault of a test, if it has one, is right
abbrev pub Right : {A E : Type 0} → (E → Type 0) → Result A E → Type 0
Right P (Ok x) = Unit {0}
Right P (Err e) = P e

pub then-right : {A B E : Type 0} (P : E → Type 0) (r : Result A E) (f : A → Result B E) → Right P r → ((x : A) → r ≡ Ok x → Right P (f x)) → Right P (and_then r f)
then-right P (Ok x) f p q = q x refl
then-right P (Err e) f p q = p

lifted-right : {A E F : Type 0} (P : F → Type 0) (g : E → F) (r : Result A E) → Right (λ e. P (g e)) r → Right P (lifted g r)
lifted-right P g (Ok x) p = tt
lifted-right P g (Err e) p = p

lifted-ok : {A E F : Type 0} (g : E → F) (r : Result A E) (x : A) → lifted g r ≡ Ok x → r ≡ Ok x
lifted-ok {A = A} {F = F} g (Ok y) x h = let z : y ≡ x = cc in ap (λ (v : A). Ok v) z
lifted-ok {A = A} {F = F} g (Err e) x h = absurd (let z : ◌≡◌ {A = ℕ} 0 1 = cc in omega arith)

-- ---- what passes

head_passed : (bs : List ℕ) (i : ℕ) (h : Head) → head_at bs i ≡ Ok h → (h.kind ≡ word_at bs (i + 2)) × (h.payload ≡ word_at bs i) × (i + 4 + word_at bs i ≤ length bs)
head_passed bs i h e = (grind (arith, nat_tests), grind (arith, nat_tests), grind (arith, nat_tests))

due-passed : (bs : List ℕ) (i k n j : ℕ) → due_at bs i k n ≡ Ok j → (j ≡ i + 4) × (word_at bs (i + 2) ≡ k) × (word_at bs i ≡ n) × (i + 4 + word_at bs i ≤ length bs)
due-passed bs i k n j e = (grind (arith, nat_tests), grind (arith, nat_tests), grind (arith, nat_tests), grind (arith, nat_tests))

more-passed : (bs : List ℕ) (i : ℕ) → more_at bs i ≡ Ok true → RecordAt bs i 3 6 × (i + 4 + word_at bs i ≤ length bs)
more-passed bs i e = ((grind (arith, nat_tests), grind (arith, nat_tests)), grind (arith, nat_tests))

within-out : (a b c : ℕ) → within a b c ≡ false → (a ≤ c) × (c ≤ b) → ⊥
within-out a b c e r = grind (arith, nat_tests)

range-in : (n : ℕ) (t : Transfer) → in_range n t ≡ true → InRange n t
range-in n t e = (grind (arith, nat_tests), grind (arith, nat_tests), grind (arith, nat_tests), λ q. grind (arith, nat_tests))

range-out : (n : ℕ) (t : Transfer) → in_range n t ≡ false → InRange n t → ⊥
range-out n t e r = grind (arith, nat_tests)

-- ---- each fault is the first rule that the record breaks

module _ (bs : List ℕ) where
  abbrev pub Fault : GraphFault → Type 0
  Fault e = Refused bs (refusal_of e)

  abbrev RecordFault : RecordsFault → Type 0
  RecordFault e = Fault (Records e)

  head-right : (u : Due) → Before bs u → Right (λ b. RecordFault (Bytes b)) (head_at bs (place u))
  head-right u b = cond_both (whole bs (place u)) _ _ (Right (λ x. RecordFault (Bytes x))) (λ e. tt) (λ e. short u b (grind (arith, nat_tests)))

  payload-right : (u : Due) (h : Head) (n : ℕ) → Whole bs u → h.payload ≡ word_at bs (place u) → Fits u (word_at bs (place u + 2)) n → Right RecordFault (payload_of h.payload n (place u))
  payload-right u h n r e f = cond_both (eqb h.payload n) _ _ (Right RecordFault) (λ s. tt) (λ s. payload u n r f (λ q. eqb-false _ _ s (e ∙ q)))

  -- where one kind is due
  due-right : (u : Due) (k n : ℕ) → ((v w : ℕ) → Fits u v w → v ≡ k) → ((v : ℕ) → v ≡ k → Fits u v n) → Before bs u → Right RecordFault (due_at bs (place u) k n)
  due-right u k n one fits b =
      let i = place u in
      then-right RecordFault (lifted Bytes (head_at bs i)) _ (lifted-right RecordFault Bytes (head_at bs i) (head-right u b)) (λ h e.
      let w = head_passed bs i h (lifted-ok Bytes (head_at bs i) h e) in
      cond_both (eqb h.kind k) _ _ (Right RecordFault)
      (λ t. payload-right u h n (b, w.2) w.1 (fits _ (sym w.0 ∙ eqb-true _ _ t)))
      (λ t. kind u (b, w.2) (λ v f. eqb-false _ _ t (w.0 ∙ one _ v f))))

  -- after the tasks two kinds are due
  more-right : (d : Description) → Before bs (more d) → Right RecordFault (more_at bs (place (more d)))
  more-right d b =
      let u = more d in
      let i = place u in
      then-right RecordFault (lifted Bytes (head_at bs i)) _ (lifted-right RecordFault Bytes (head_at bs i) (head-right u b)) (λ h e.
      let w = head_passed bs i h (lifted-ok Bytes (head_at bs i) h e) in
      cond_both (eqb h.kind 3) _ _ (Right RecordFault)
      (λ t. then-right RecordFault (payload_of h.payload 6 i) _ (payload-right u h 6 (b, w.2) w.1 (inl (sym w.0 ∙ eqb-true _ _ t, refl))) (λ _ _. tt))
      (λ t. cond_both (eqb h.kind 4) _ _ (Right RecordFault)
      (λ s. then-right RecordFault (payload_of h.payload 0 i) _ (payload-right u h 0 (b, w.2) w.1 (inr (sym w.0 ∙ eqb-true _ _ s, refl))) (λ _ _. tt))
      (λ s. kind u (b, w.2) (λ v f. ⊎_elim (λ x. eqb-false _ _ t (w.0 ∙ x.0)) (λ x. eqb-false _ _ s (w.0 ∙ x.0)) f))))

  pub header-right : Right Fault (header_at bs)
  header-right = then-right Fault (lifted Records (due_at bs 0 1 4)) _ (lifted-right Fault Records (due_at bs 0 1 4) (due-right header 1 4 (λ v w f. f.0) (λ v e. (e, refl)) tt)) (λ j e.
      let p = due-passed bs 0 1 4 j (lifted-ok Records (due_at bs 0 1 4) j e) in
      cond_both (within 1 32 (word_at bs j) && within 1 8 (word_at bs (j + 2))) _ _ (Right Fault)
      (λ t. tt)
      (λ t. let q : (within 1 32 (word_at bs 4) && within 1 8 (word_at bs 6)) ≡ false = subst (λ (v : ℕ). (within 1 32 (word_at bs v) && within 1 8 (word_at bs (v + 2))) ≡ false) p.0 t in
      range header ((tt, p.3), (p.1, p.2)) (λ r. ⊎_elim (λ x. within-out 1 32 _ x (r.0, r.1)) (λ x. within-out 1 8 _ x (r.2, r.3)) (and_cases _ _ q))))

  pub work-right : (d : Description) → Before bs (task d) → Right Fault (work_at bs (place (task d)))
  work-right d b =
      let i = place (task d) in
      then-right Fault (lifted Records (due_at bs i 2 2)) _ (lifted-right Fault Records (due_at bs i 2 2) (due-right (task d) 2 2 (λ v w f. f.0) (λ v e. (e, refl)) b)) (λ j e.
      let p = due-passed bs i 2 2 j (lifted-ok Records (due_at bs i 2 2) j e) in
      cond_both (within 1 1000 (word_at bs j)) _ _ (Right Fault)
      (λ t. tt)
      (λ t. range (task d) ((b, p.3), (p.1, p.2)) (λ r. within-out 1 1000 _ (subst (λ (v : ℕ). within 1 1000 (word_at bs v) ≡ false) p.0 t) (r _ (p.2, p.1, refl)))))

  transfer-right : (d : Description) → Before bs (more d) → RecordAt bs (place (more d)) 3 6 × (end bs (more d) ≤ length bs) → Right Fault (transfer_at bs d.tasks d.transfers (place (more d)))
  transfer-right d b f =
      let i = place (more d) in
      let t : Transfer = record { from = word_at bs (i + 4); to = word_at bs (i + 6); cost = word_at bs (i + 8) } in
      let m : TransferAt bs i t = (f.0.0, f.0.1, refl, refl, refl) in
      cond_both (in_range d.tasks t) _ _ (Right Fault)
      (λ a. let s : Sound bs d t = ((b, f.1), m, range-in d.tasks t a) in
      cond_both (ltb (length d.transfers) 128) _ _ (Right Fault)
      (λ c. cond_both (leads d.transfers (word_at bs (i + 4)) (word_at bs (i + 6))) _ _ (Right Fault)
      (λ l. let p = leads-at d.transfers _ _ l in twice d t p.0 s (ltb-true _ _ c) p.1 p.2 p.3)
      (λ l. tt))
      (λ c. let y = b.0.sizes.4 in many d t s (omega (arith, ltb-false _ _ c))))
      (λ a. range (more d) ((b, f.1), inl (f.0.1, f.0.0)) (λ r. range-out d.tasks t a (r t m)))

  chosen-right : (d : Description) → Before bs (more d) → (m : Bool) → more_at bs (place (more d)) ≡ Ok m
      → Right Fault (cond m (and_then (transfer_at bs d.tasks d.transfers (place (more d))) (λ t. Ok (Some t))) (Ok None))
  chosen-right d b true e = then-right Fault (transfer_at bs d.tasks d.transfers (place (more d))) _ (transfer-right d b (more-passed bs (place (more d)) e)) (λ _ _. tt)
  chosen-right d b false e = tt

  pub next-right : (d : Description) → Before bs (more d) → Right Fault (next_at bs d.tasks d.transfers (place (more d)))
  next-right d b =
      let r = more_at bs (place (more d)) in
      then-right Fault (lifted Records r) _ (lifted-right Fault Records r (more-right d b)) (λ m e. chosen-right d b m (lifted-ok Records r m e))

  pub end-right : (d : Description) → Before bs (more d) → RecordAt bs (place (more d)) 4 0 → place (more d) + 4 ≤ length bs → Right Fault (end_at bs (place (more d) + 4))
  end-right d b f h = cond_both (leb (length bs) (place (more d) + 4)) _ _ (Right Fault) (λ e. tt) (λ e. tail d (b, omega (arith, f.0)) f (leb-false _ _ e))
