use Rattle.std.proofs.Common.{◌≡◌, ℕ, ◌+◌, List, length, Ok, refl, ap, ◌∙◌, subst, arith}
use Rattle.std.proofs.lemmas.List.{take_all}
use Rattle.loader.specs.Description.{Description, described}
use Rattle.loader.specs.Layout.{place_of}
use Rattle.loader.specs.Parse.{header_at, read_works, read_transfers, end_at, decode}
use Rattle.model.specs.Graph.{LawfulButForCycles}
use Rattle.loader.specs.Encoding.{Encodes}
use Rattle.loader.proofs.Chaining.{and_then-ok, and_then-at}
use Rattle.loader.proofs.SingleRecords.{header-reads, header-told, header-range, tail-reads, tail-told}
use Rattle.loader.proofs.WorksRead.{works-told, works-inside, works-read}
use Rattle.loader.proofs.TransfersRead.{transfers-told, transfers-read}

-- what stands in the file is decoded
pub decode-reads : (bs : List ℕ) (d : Description) → Encodes bs d → LawfulButForCycles (described d) → decode bs ≡ Ok d
decode-reads bs d s l =
    let n = d.tasks in
    let z = s.long in
    let y = l.sizes in
    let f = s.first in
    let ts = d.transfers in
    let i = place_of n (length ts) + 4 in
    let w : read_works bs n ≡ Ok d.works = works-read bs d.works n (omega arith) (s.all, λ k h. (s.task k h, l.works k h)) n (omega arith) ∙ ap (λ (x : List ℕ). Ok x) (take_all n d.works (omega (arith, s.all))) in
    let t : read_transfers bs n ≡ Ok ts = transfers-read bs n ts
    (record { few = y.4; shown = λ k h. (s.transfer k h, ((l.ends k h).0, (l.ends k h).1, l.costs k h, l.apart k h)); pairs = l.pairs }) (s.last, omega arith) in
    and_then-at (header_at bs) _ (n, d.machines) (Ok d) (header-reads bs n d.machines (omega arith) f.0 f.1 f.2 f.3 (y.0, y.1, y.2, y.3))
    (and_then-at (read_works bs n) _ d.works (Ok d) w
    (and_then-at (read_transfers bs n) _ ts (Ok d) t
    (and_then-at (end_at bs i) _ tt (Ok d) (tail-reads bs i (omega arith)) refl)))

-- what is decoded stands in the file
pub decode-told : (bs : List ℕ) (d : Description) → decode bs ≡ Ok d → Encodes bs d × LawfulButForCycles (described d)
decode-told bs d e =
    let p = and_then-ok (header_at bs) _ d e in
    let n = p.0.0 in
    let q = and_then-ok (read_works bs n) _ d p.2 in
    let r = and_then-ok (read_transfers bs n) _ d q.2 in
    let ts = r.0 in
    let i = place_of n (length ts) + 4 in
    let v = and_then-ok (end_at bs i) _ d r.2 in
    let is : ◌≡◌ {A = Description} (record { tasks = n; machines = p.0.1; works = q.0; transfers = ts }) d = let k = v.2 in cc in
    let h = header-range bs n p.0.1 p.1 in
    let w = works-told bs n q.0 q.1 in
    let t = transfers-told bs n (works-inside bs n q.0 h.4 q.1) ts r.1 in
    let x = tail-told bs i v.1 in
    let c = t.1.1 in
    subst (λ (m : Description). Encodes bs m × LawfulButForCycles (described m)) is (
      record {
        long = omega arith;
        all = w.0;
        first = header-told bs n p.0.1 p.1;
        task = λ k lt. (w.1 k lt).0;
        transfer = λ k lt. (t.0.shown k lt).0;
        last = t.1.0;
      },
      record {
        sizes = (h.0, h.1, h.2, h.3, t.0.few);
        works = λ k lt. (w.1 k lt).1;
        costs = λ k lt. (t.0.shown k lt).1.2;
        ends = λ k lt. let g = (t.0.shown k lt).1 in (g.0, g.1);
        apart = λ k lt. (t.0.shown k lt).1.3;
        pairs = t.0.pairs;
      },
    )
