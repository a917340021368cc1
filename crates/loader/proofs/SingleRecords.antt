use Rattle.std.proofs.Common.{◌≡◌, ℕ, ◌+◌, ◌<◌, ◌≤◌, false, List, length, Ok, arith, Some, None}
use Rattle.std.proofs.lemmas.Bool.Decides.{nat_tests}
use Rattle.loader.specs.declared.transfer.Transfer.{Transfer}
use Rattle.loader.specs.View.{leads}
use Rattle.loader.specs.Bytes.{word_at}
use Rattle.loader.specs.Parse.{header_at, work_at, next_at, end_at}
use Rattle.loader.specs.Encoding.{RecordAt, TaskAt, TransferAt}
use Rattle.loader.specs.Refused.{WorkInRange, InRange}

-- ---- what a record holds is read

pub header-reads : (bs : List ℕ) (n p : ℕ) → 8 ≤ length bs → word_at bs 0 ≡ 4 → word_at bs 2 ≡ 1 → word_at bs 4 ≡ n → word_at bs 6 ≡ p → (1 ≤ n) × (n ≤ 32) × (1 ≤ p) × (p ≤ 8) → header_at bs ≡ Ok (n, p)
header-reads bs n p l a b c d r = grind (arith, nat_tests)

pub work-reads : (bs : List ℕ) (i w : ℕ) → i + 6 ≤ length bs → TaskAt bs i w → WorkInRange w → work_at bs i ≡ Ok w
work-reads bs i w l t r = grind (arith, nat_tests)

pub transfer-reads : (bs : List ℕ) (n : ℕ) (ts : List Transfer) (i : ℕ) (t : Transfer) → i + 10 ≤ length bs → TransferAt bs i t → InRange n t → length ts < 128 → leads ts t.from t.to ≡ false → next_at bs n ts i ≡ Ok (Some t)
transfer-reads bs n ts i t l m r h e = grind (arith, nat_tests)

pub end_reads : (bs : List ℕ) (n : ℕ) (ts : List Transfer) (i : ℕ) → i + 4 ≤ length bs → RecordAt bs i 4 0 → next_at bs n ts i ≡ Ok None
end_reads bs n ts i l m = grind (arith, nat_tests)

pub tail-reads : (bs : List ℕ) (i : ℕ) → length bs ≤ i → end_at bs i ≡ Ok tt
tail-reads bs i h = grind (arith, nat_tests)

-- ---- what is read is in the record

pub header-told : (bs : List ℕ) (n p : ℕ) → header_at bs ≡ Ok (n, p) → (word_at bs 0 ≡ 4) × (word_at bs 2 ≡ 1) × (word_at bs 4 ≡ n) × (word_at bs 6 ≡ p)
header-told bs n p e = (grind (arith, nat_tests), grind (arith, nat_tests), grind (arith, nat_tests), grind (arith, nat_tests))

pub header-range : (bs : List ℕ) (n p : ℕ) → header_at bs ≡ Ok (n, p) → (1 ≤ n) × (n ≤ 32) × (1 ≤ p) × (p ≤ 8) × (8 ≤ length bs)
header-range bs n p e = (grind (arith, nat_tests), grind (arith, nat_tests), grind (arith, nat_tests), grind (arith, nat_tests), grind (arith, nat_tests))

pub work-told : (bs : List ℕ) (i w : ℕ) → work_at bs i ≡ Ok w → TaskAt bs i w
work-told bs i w e = (grind (arith, nat_tests), grind (arith, nat_tests), grind (arith, nat_tests))

pub work-range : (bs : List ℕ) (i w : ℕ) → work_at bs i ≡ Ok w → WorkInRange w
work-range bs i w e = (grind (arith, nat_tests), grind (arith, nat_tests))

pub transfer-told : (bs : List ℕ) (n : ℕ) (ts : List Transfer) (i : ℕ) (t : Transfer) → next_at bs n ts i ≡ Ok (Some t) → TransferAt bs i t
transfer-told bs n ts i t e = (grind (arith, nat_tests), grind (arith, nat_tests), grind (arith, nat_tests), grind (arith, nat_tests), grind (arith, nat_tests))

pub transfer-range : (bs : List ℕ) (n : ℕ) (ts : List Transfer) (i : ℕ) (t : Transfer) → next_at bs n ts i ≡ Ok (Some t) → InRange n t
transfer-range bs n ts i t e = (grind (arith, nat_tests), grind (arith, nat_tests), grind (arith, nat_tests), grind (arith, nat_tests))

pub transfer-new : (bs : List ℕ) (n : ℕ) (ts : List Transfer) (i : ℕ) (t : Transfer) → next_at bs n ts i ≡ Ok (Some t) → leads ts t.from t.to ≡ false
transfer-new bs n ts i t e = grind (arith, nat_tests)

pub end-told : (bs : List ℕ) (n : ℕ) (ts : List Transfer) (i : ℕ) → next_at bs n ts i ≡ Ok None → RecordAt bs i 4 0
end-told bs n ts i e = (grind (arith, nat_tests), grind (arith, nat_tests))

pub tail-told : (bs : List ℕ) (i : ℕ) → end_at bs i ≡ Ok tt → length bs ≤ i
tail-told bs i e = grind (arith, nat_tests)
