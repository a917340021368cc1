use Rattle.std.proofs.Common.{◌≡◌, ℕ, zero, suc, ◌+◌, ◌*◌, ◌≤◌, ltb, List, [], length, Ok, Err, Result, refl, subst, arith, Some, None, Option}
use Rattle.std.proofs.lemmas.Bool.{cond_both, ltb-true}
use Rattle.model.specs.Cycles.{cyclic}
use Rattle.model.proofs.Cycles.{cyclic-lowest}
use Rattle.loader.specs.declared.faults.GraphFault.{GraphFault}
use Rattle.loader.specs.declared.transfer.Transfer.{Transfer}
use Rattle.loader.specs.Description.{Description, described}
use Rattle.loader.specs.Layout.{place_of}
use Rattle.loader.specs.Parse.{header_at, work_at, read_works, next_at, Progress, reading, ended, refused, taken, step, after, finish, read_transfers, end_at, decode, cycle_test, parse}
use Rattle.loader.specs.Refusals.{refusal_of}
use Rattle.loader.specs.Refused.{SoFar, Before, task, more, Refused, cycle}
use Rattle.loader.proofs.SingleRecords.{header-told, header-range}
use Rattle.loader.proofs.WorksRead as works
use Rattle.loader.proofs.TransfersRead as transfers
use Rattle.loader.proofs.Decoding.{decode-told}
use Rattle.loader.proofs.FirstFaults.{Right, then-right, Fault, header-right, work-right, next-right, end-right}

module _ (bs : List ℕ) (n p : ℕ) (first : header_at bs ≡ Ok (n, p)) where
  abbrev telling : List ℕ → List Transfer → Description
  telling ws ts = record { tasks = n; machines = p; works = ws; transfers = ts }

  -- what is read so far breaks no rule
  so_far : (m : ℕ) (ws : List ℕ) (ts : List Transfer) → works.ShownAll bs m ws → transfers.ShownAll bs n ts → place_of m (length ts) ≤ length bs → SoFar bs (telling ws ts)
  so_far m ws ts w t i =
      let h = header-range bs n p first in
      let l : length ws ≡ m = w.0 in
      record {
        first = header-told bs n p first;
        sizes = (h.0, h.1, h.2, h.3, t.few);
        task = λ k lt. w.1 k (omega (arith, lt));
        transfer = t.shown;
        pairs = t.pairs;
        inside = omega arith;
      }

  works-right : (k : ℕ) → k ≤ n → Right (Fault bs) (read_works bs k)
  works-right zero h = tt
  works-right (suc k) h = then-right (Fault bs) (read_works bs k) _ (works-right k (omega arith)) (λ ws e.
      let w = works.works-told bs k ws e in
      let l : length ws ≡ k = w.0 in
      let i = works.works-inside bs k ws (header-range bs n p first).4 e in
      let b : Before bs (task (telling ws [])) = (so_far k ws [] w (transfers.shown-none bs n) (omega arith), omega arith, refl) in
      then-right (Fault bs) (work_at bs (8 + 6 * k)) _ (subst (λ (v : ℕ). Right (Fault bs) (work_at bs (8 + 6 * v))) l (work-right bs (telling ws []) b)) (λ w _. tt))

  module _ (ws : List ℕ) (all : read_works bs n ≡ Ok ws) where
    tasks-inside : 8 + 6 * n ≤ length bs
    tasks-inside = works.works-inside bs n ws (header-range bs n p first).4 all

    before : (ts : List Transfer) → transfers.ShownAll bs n ts → place_of n (length ts) ≤ length bs → Before bs (more (telling ws ts))
    before ts t i = let w = works.works-told bs n ws all in (so_far n ws ts w t i, w.0)

    abbrev RightSoFar : Progress → Type 0
    RightSoFar (reading ts) = Unit {0}
    RightSoFar (ended ts) = Unit {0}
    RightSoFar (refused e) = Fault bs e

    taken-right : (ts : List Transfer) (r : Result (Option Transfer) GraphFault) → Right (Fault bs) r → RightSoFar (taken ts r)
    taken-right ts (Ok None) q = tt
    taken-right ts (Ok (Some t)) q = tt
    taken-right ts (Err e) q = q

    step_right : (k : ℕ) (s : Progress) → transfers.Told bs n tasks-inside k s → RightSoFar s → RightSoFar (step bs n s)
    step_right k (reading ts) t q = taken-right ts (next_at bs n ts (place_of n (length ts))) (next-right bs (telling ws ts) (before ts t.0 t.2))
    step_right k (ended ts) t q = tt
    step_right k (refused e) t q = q

    after-right : (k : ℕ) → RightSoFar (after bs n k)
    after-right zero = tt
    after-right (suc k) = step_right k (after bs n k) (transfers.after-told bs n tasks-inside k) (after-right k)

    finish-right : (s : Progress) → transfers.Told bs n tasks-inside 129 s → RightSoFar s → Right (Fault bs) (finish s)
    finish-right (reading ts) t q = let f = t.0.few in absurd (omega (arith, t.1))
    finish-right (ended ts) t q = tt
    finish-right (refused e) t q = q

    transfers-right : Right (Fault bs) (read_transfers bs n)
    transfers-right = finish-right (after bs n 129) (transfers.after-told bs n tasks-inside 129) (after-right 129)

    tail-right : (ts : List Transfer) → read_transfers bs n ≡ Ok ts → Right (Fault bs) (end_at bs (place_of n (length ts) + 4))
    tail-right ts e =
        let t = transfers.transfers-told bs n tasks-inside ts e in
        let c = t.1.1 in
        end-right bs (telling ws ts) (before ts t.0 (omega arith)) t.1.0 c

decode-right : (bs : List ℕ) → Right (Fault bs) (decode bs)
decode-right bs =
    then-right (Fault bs) (header_at bs) _ (header-right bs) (λ h eh.
    then-right (Fault bs) (read_works bs h.0) _ (works-right bs h.0 h.1 eh h.0 (omega arith)) (λ ws ew.
    then-right (Fault bs) (read_transfers bs h.0) _ (transfers-right bs h.0 h.1 eh ws ew) (λ ts et.
    then-right (Fault bs) (end_at bs (place_of h.0 (length ts) + 4)) _ (tail-right bs h.0 h.1 eh ws ew ts et) (λ _ _. tt))))

parse-right : (bs : List ℕ) → Right (Fault bs) (parse bs)
parse-right bs = then-right (Fault bs) (decode bs) cycle_test (decode-right bs) (λ d e.
    let g = described d in
    let t = decode-told bs d e in
    cond_both (ltb (cyclic g) d.tasks) _ _ (Right (Fault bs)) (λ c. cycle d (cyclic g) t.0 t.1 (cyclic-lowest g t.1.ends (ltb-true _ _ c))) (λ _. tt))

right-err : {A E : Type 0} (P : E → Type 0) (r : Result A E) (e : E) → Right P r → r ≡ Err e → P e
right-err {A = A} {E = E} P (Ok x) e q h = absurd (let z : ◌≡◌ {A = ℕ} 0 1 = cc in omega arith)
right-err {A = A} {E = E} P (Err d) e q h = let z : d ≡ e = cc in subst P z q

-- a refusal is the first rule that is broken, at the first record that breaks one
pub parse-refused : (bs : List ℕ) (e : GraphFault) → parse bs ≡ Err e → Refused bs (refusal_of e)
parse-refused bs e h = right-err (Fault bs) (parse bs) e (parse-right bs) h
