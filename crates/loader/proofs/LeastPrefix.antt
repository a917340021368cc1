use Rattle.std.proofs.Common.{◌≡◌, ℕ, ◌+◌, ◌*◌, ◌<◌, ◌≤◌, ◌-◌, ◌/◌, ◌%◌, List, length, get_or, map, take, Ok, Err, Result, refl, sym, ap, ◌∙◌, arith, subst, inl, length-take-le, get_or-take}
use native.Mathlib.Decide.{dec_lt}
use Rattle.std.specs.Prelude.{if◌then◌else◌, nat_lt, ◌==◌}
use Rattle.std.specs.List.{range_with_len}
use Rattle.std.proofs.lemmas.List.Elements.{All-take}
use Rattle.std.proofs.lemmas.List.FromFn.{length-map-range_with_len, get_or-map-range_with_len}
use Rattle.std.proofs.lemmas.Bool.Decides.{nat_tests}
use Rattle.refusal.specs.declared.layer.Layer.TheVariants.{Records}
use Rattle.refusal.specs.declared.refusal.Refusal.{Refusal}
use Rattle.loader.specs.declared.faults.GraphFault.{GraphFault}
use Rattle.loader.specs.declared.transfer.Transfer.{Transfer}
use Rattle.loader.specs.View.{blank}
use Rattle.loader.specs.Description.{Description}
use Rattle.loader.specs.Layout.{place_of}
use Rattle.loader.specs.Bytes.{word_at}
use Rattle.loader.specs.Parse.{parse}
use Rattle.loader.specs.Prefix.{longest_prefix, Decides}
use Rattle.loader.specs.Encoding.{TaskAt, TransferAt}
use Rattle.loader.specs.Refused.{SoFar, more, place, Refused, short, kind, payload, range, many, twice, tail, cycle}
use Rattle.loader.proofs.Refusing.{parse-refused}
use Rattle.loader.proofs.Converse.{refused-only, refused-never}

-- the longest run of good records, and the head of a transfer with the longest payload

abbrev task : ℕ → ℕ
task r = if r == 2 then 1 else 2

abbrev transfer : ℕ → ℕ → ℕ
transfer k r = if r == 0 then 6 else if r == 1 then 3 else if r == 2 then k / 16 else if r == 3 then 16 + k % 16 else 0

-- the number in bytes 2 h and 2 h + 1
abbrev number : ℕ → ℕ
number h =
    if nat_lt h 4 then if h == 0 then 4 else if h == 2 then 32 else 1
    else if nat_lt h 100 then task ((h - 4) % 3)
    else if nat_lt h 740 then transfer ((h - 100) / 5) ((h - 100) % 5)
    else if h == 740 then 65535 else 3

abbrev byte : ℕ → ℕ
byte i = if i % 2 == 0 then number (i / 2) % 256 else number (i / 2) / 256

byte-small : (i : ℕ) → byte i < 256
byte-small i = grind (arith, nat_tests)

even : (h : ℕ) → byte (2 * h) ≡ number h % 256
even h =
    let q : 2 * h % 2 ≡ 0 = omega arith in
    let d : 2 * h / 2 ≡ h = omega arith in
    rw (q, d) refl

odd : (h : ℕ) → byte (2 * h + 1) ≡ number h / 256
odd h =
    let q : (2 * h + 1) % 2 ≡ 1 = omega arith in
    let d : (2 * h + 1) / 2 ≡ h = omega arith in
    rw (q, d) refl

task-number : (h k r : ℕ) → h ≡ 4 + 3 * k + r → k < 32 → r < 3 → number h ≡ task r
task-number h k r e l m =
    let q : (h - 4) % 3 ≡ r = omega arith in
    rw q (grind (arith, nat_tests))

transfer-number : (h k r : ℕ) → h ≡ 100 + 5 * k + r → k < 128 → r < 5 → number h ≡ transfer k r
transfer-number h k r e l m =
    let q : (h - 100) % 5 ≡ r = omega arith in
    let d : (h - 100) / 5 ≡ k = omega arith in
    rw (q, d) (grind (arith, nat_tests))

-- a list of what f tells of the numbers below n
record Table {X : Type 0} (f : ℕ → X) (n : ℕ) (xs : List X) : Type 0 where
  long : length xs ≡ n
  at : (i : ℕ) (d : X) → i < n → get_or xs i d ≡ f i

table : {X : Type 0} (f : ℕ → X) (n : ℕ) → (xs : List X) × Table f n xs
table f n = (map f (range_with_len 0 n), record { long = length-map-range_with_len f 0 n; at = λ i d h. get_or-map-range_with_len f 0 n i i d h (omega arith) })

abbrev between : ℕ → Transfer
between k = record { from = k / 16; to = 16 + k % 16; cost = 0 }

module _ (bs : List ℕ) (b : Table byte longest_prefix bs) where
  word : (i h : ℕ) → i ≡ 2 * h → i + 1 < longest_prefix → word_at bs i ≡ number h
  word i h e l = rw (e, b.at (2 * h) 0 (omega arith) ∙ even h, b.at (2 * h + 1) 0 (omega arith) ∙ odd h) (omega arith)

  task-at : (i k : ℕ) → i ≡ 8 + 6 * k → k < 32 → TaskAt bs i 1
  task-at i k e l = (at 0 i (omega arith) (omega arith), at 1 (i + 2) (omega arith) (omega arith), at 2 (i + 4) (omega arith) (omega arith))
    where
      at : (r i : ℕ) → i ≡ 8 + 6 * k + 2 * r → r < 3 → word_at bs i ≡ task r
      at r i e m = word i (4 + 3 * k + r) (omega arith) (omega arith) ∙ task-number (4 + 3 * k + r) k r refl l m

  transfer-at : (i k : ℕ) → i ≡ 200 + 10 * k → k < 128 → TransferAt bs i (between k)
  transfer-at i k e l = (at 0 i (omega arith) (omega arith), at 1 (i + 2) (omega arith) (omega arith), at 2 (i + 4) (omega arith) (omega arith), at 3 (i + 6) (omega arith) (omega arith), at 4 (i + 8) (omega arith) (omega arith))
    where
      at : (r i : ℕ) → i ≡ 200 + 10 * k + 2 * r → r < 5 → word_at bs i ≡ transfer k r
      at r i e m = word i (100 + 5 * k + r) (omega arith) (omega arith) ∙ transfer-number (100 + 5 * k + r) k r refl l m

  long-word : word_at bs 1480 ≡ 65535
  long-word = word 1480 740 refl (omega arith)

  long-kind : word_at bs 1482 ≡ 3
  long-kind = word 1482 741 refl (omega arith)

  module _ (ws : List ℕ) (w : Table (λ _. 1) 32 ws) (ts : List Transfer) (t : Table between 128 ts) where
    abbrev told : Description
    told = record { tasks = 32; machines = 1; works = ws; transfers = ts }

    so-far : SoFar bs told
    so-far = record {
      first = (word 0 0 refl (omega arith), word 2 1 refl (omega arith), word 4 2 refl (omega arith), word 6 3 refl (omega arith));
      sizes = (omega arith, omega arith, omega arith, omega arith, omega (arith, t.long));
      task = λ k h.
          let l : k < 32 = omega (arith, w.long) in
          rw (w.at k 0 l) (task-at (8 + 6 * k) k refl l, (omega arith, omega arith));
      transfer = λ k h.
          let l : k < 128 = omega (arith, t.long) in
          rw (t.at k blank l) (transfer-at (place_of 32 k) k (omega arith) l, (omega arith, omega arith, omega arith, λ e. omega (arith, e)));
      pairs = λ i j s.
          let l : j < 128 = omega (arith, t.long, s.1) in
          let d = t.at i blank (omega (arith, s.0)) in
          let e = t.at j blank l in
          let x : i / 16 ≡ j / 16 = ap (λ (x : Transfer). x.from) (sym d) ∙ (s.2 ∙ ap (λ (x : Transfer). x.from) e) in
          let y : 16 + i % 16 ≡ 16 + j % 16 = ap (λ (x : Transfer). x.to) (sym d) ∙ (s.3 ∙ ap (λ (x : Transfer). x.to) e) in
          omega (arith, s.0);
      inside = omega (arith, w.long, t.long, b.long);
    }

    end-of : place (more told) ≡ 1480
    end-of = omega (arith, t.long)

    -- the record after the last transfer is refused for its payload length
    refuses : Refused bs (record { number = 3; place = place (more told); layer = Records })
    refuses = payload (more told) 6 ((so-far, w.long), rw end-of (omega (arith, long-word, b.long))) (rw end-of (inl (long-kind, refl))) (rw end-of (λ e. omega (arith, long-word)))

-- a record that is refused for its payload length is whole
whole-refused : (bs : List ℕ) (r : Refusal) → Refused bs r → r.number ≡ 3 → r.place + 4 + word_at bs r.place ≤ length bs
whole-refused bs r (short u b l) n = absurd (omega arith)
whole-refused bs r (kind u w f) n = absurd (omega arith)
whole-refused bs r (payload u m w f g) n = w.1
whole-refused bs r (range u w g) n = absurd (omega arith)
whole-refused bs r (many d t s l) n = absurd (omega arith)
whole-refused bs r (twice d t k s l h f g) n = absurd (omega arith)
whole-refused bs r (tail d w m h) n = absurd (omega arith)
whole-refused bs r (cycle d t s l low) n = absurd (omega arith)

module _ (bs : List ℕ) (b : Table byte longest_prefix bs) (n : ℕ) (d : Decides n) (less : n < longest_prefix) where
  same : parse (take n bs) ≡ parse bs
  same = d bs (All-take (λ x. x < 256) n bs (λ i e h. rw (b.at i e (omega (arith, b.long))) (byte-small i)))

  -- the record is not whole, if it is cut
  cut : (i : ℕ) → i ≡ 1480 → i + 4 + word_at (take n bs) i ≤ length (take n bs) → ⊥
  cut i e h =
      let l = length-take-le n bs (omega (arith, b.long)) in
      let q : word_at bs i ≡ 65535 = rw e (long-word bs b) in
      omega (arith, get_or-take n bs i 0 (omega arith), get_or-take n bs (i + 1) 0 (omega arith))

  none : (r : Refusal) → r.number ≡ 3 → r.place ≡ 1480 → Refused bs r → (x : Result Description GraphFault) → parse bs ≡ x → ⊥
  none r t p f (Ok x) h = refused-never bs x h r f
  none r t p f (Err e) h = cut r.place p (whole-refused (take n bs) r (subst (Refused (take n bs)) (refused-only bs e h r f) (parse-refused (take n bs) e (same ∙ h))) t)

pub least : (n : ℕ) → Decides n → longest_prefix ≤ n
least n d = elim (dec_lt n longest_prefix) [
  | yes h ↦
      let b = table byte longest_prefix in
      let w = table (λ _. 1) 32 in
      let t = table between 128 in
      absurd (none b.0 b.1 n d h _ refl (end-of b.0 b.1 w.0 w.1 t.0 t.1) (refuses b.0 b.1 w.0 w.1 t.0 t.1) (parse b.0) refl)
  | no h ↦ omega (arith, h)
]
