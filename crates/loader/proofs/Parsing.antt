use Rattle.std.proofs.Common.{◌≡◌, ℕ, ◌+◌, ◌*◌, ◌<◌, ◌≤◌, Bool, true, false, cond, ltb, List, length, Some, None, Option, Ok, Err, sym, refl, ap, ◌∙◌, subst, arith}
use native.Mathlib.Decide.{dec_lt}
use Rattle.std.proofs.lemmas.Bool.{cond-true, cond-false, lt-ltb, le-ltb, ltb-true, ltb-false}
use Rattle.std.proofs.lemmas.Option.{cond_some}
use Rattle.model.specs.Graph.{Graph, LawfulButForCycles, Lawful}
use Rattle.model.specs.Range.{first, lowest}
use Rattle.model.specs.Cycles.{reach, cyclic, LowestOnCycle}
use Rattle.model.proofs.Cycles.{cyclic-lowest, cyclic-none, acyclic-none}
use Rattle.loader.specs.declared.faults.GraphFault.{GraphFault}
use Rattle.loader.specs.declared.faults.GraphFault.TheVariants.{Cycle}
use Rattle.loader.specs.declared.transfer.Transfer.{Transfer}
use Rattle.loader.specs.View.{graph_of}
use Rattle.loader.specs.Description.{Description, described}
use Rattle.loader.specs.Parse.{decode, cycle_test, parse}
use Rattle.loader.specs.Encoding.{Encodes}
use Rattle.loader.proofs.Chaining.{ok-err, and_then-ok, and_then-at, refuse-ok}
use Rattle.loader.proofs.Decoding.{decode-reads, decode-told}

-- without a cycle the numbers are the whole law
pub lawful-all : {g : Graph} → LawfulButForCycles g → g.tasks ≤ cyclic g → Lawful g
lawful-all {g} l h = record { numbers = l; acyclic = cyclic-none g l.ends h }

-- a lawful description that the file holds is read
pub parse-reads : (bs : List ℕ) (d : Description) → Encodes bs d → Lawful (described d) → parse bs ≡ Ok d
parse-reads bs d s l =
    let a = acyclic-none (described d) l.acyclic in
    let f : ltb (cyclic (described d)) d.tasks ≡ false = le-ltb (cyclic (described d)) d.tasks (omega arith) in
    and_then-at (decode bs) cycle_test d (Ok d) (decode-reads bs d s l.numbers) (cond-false _ _ _ f)

-- what is read is held by the file, and lawful
pub parse-told : (bs : List ℕ) (d : Description) → parse bs ≡ Ok d → Encodes bs d × Lawful (described d)
parse-told bs d e =
    let p = and_then-ok (decode bs) cycle_test d e in
    let x = p.0 in
    let q = refuse-ok (ltb (cyclic (described x)) x.tasks) (Cycle (8 + 6 * cyclic (described x))) x d p.2 in
    let t = decode-told bs x p.1 in
    subst (λ (m : Description). Encodes bs m × Lawful (described m)) q.1 (t.0, lawful-all t.1 (ltb-false _ _ q.0))

-- what is refused holds no lawful description
pub parse-refuses : (bs : List ℕ) (e : GraphFault) → parse bs ≡ Err e → (d : Description) → Encodes bs d → Lawful (described d) → ⊥
parse-refuses bs e h d s l = ok-err d e (sym (parse-reads bs d s l) ∙ h)

-- there is one lowest task on a cycle
lowest-once : (g : Graph) (t u : ℕ) → LowestOnCycle g t → LowestOnCycle g u → t ≡ u
lowest-once g t u a b = elim (dec_lt t u) [
  | yes h ↦ absurd (b.2 t h a.1)
  | no h ↦ elim (dec_lt u t) [ yes k ↦ absurd (a.2 u k b.1) | no k ↦ omega arith ]
]

-- wherever there is a cycle, and nothing else is wrong, it is told
pub cycle-refused : (bs : List ℕ) (d : Description) (t : ℕ) → Encodes bs d → LawfulButForCycles (described d) → LowestOnCycle (described d) t → parse bs ≡ Err (Cycle (8 + 6 * t))
cycle-refused bs d t s l low =
    let g = described d in
    elim (dec_lt (cyclic g) d.tasks) [
      | yes h ↦ let q : cyclic g ≡ t = lowest-once g (cyclic g) t (cyclic-lowest g l.ends h) low in
          and_then-at (decode bs) cycle_test d (Err (Cycle (8 + 6 * t))) (decode-reads bs d s l) (cond-true _ _ _ (lt-ltb _ _ h) ∙ ap (λ (v : ℕ). Err (Cycle (8 + 6 * v))) q)
      | no h ↦ absurd (cyclic-none g l.ends (omega (arith, h)) t low.1)
    ]

none-of : (b : Bool) (c : ℕ) → cond b (Some c) None ≡ None → b ≡ false
none-of true c e = absurd (let z : ◌≡◌ {A = ℕ} 0 1 = cc in omega arith)
none-of false c e = refl

module _ (tasks : ℕ) (ts : List Transfer) (d : Description) (n : d.tasks ≡ tasks) (m : d.transfers ≡ ts) where
  found : (r : Option ℕ) → ((p : ℕ) (ws : List ℕ) → r ≡ lowest tasks (λ t. reach (graph_of tasks p ws (length ts) ts) tasks t t)) → lowest d.tasks (λ t. reach (described d) d.tasks t t) ≡ r
  found r f = rw (n, m) (sym (f d.machines d.works))

  pub cycle-found : (t : ℕ) → ((p : ℕ) (ws : List ℕ) → Some t ≡ lowest tasks (λ t. reach (graph_of tasks p ws (length ts) ts) tasks t t)) → cycle_test d ≡ Err (Cycle (8 + 6 * t))
  cycle-found t f =
      let q = cond_some (ltb (cyclic (described d)) d.tasks) (cyclic (described d)) t (found (Some t) f) in
      cond-true _ _ _ q.0 ∙ ap (λ (v : ℕ). Err (Cycle (8 + 6 * v))) q.1

  pub cycle-none : ((p : ℕ) (ws : List ℕ) → None ≡ lowest tasks (λ t. reach (graph_of tasks p ws (length ts) ts) tasks t t)) → cycle_test d ≡ Ok d
  cycle-none f = cond-false _ _ _ (none-of (ltb (cyclic (described d)) d.tasks) (cyclic (described d)) (found None f))

-- a lowest number is below the bound
pub lowest-small : (n : ℕ) (f : ℕ → Bool) (t : ℕ) → Some t ≡ lowest n f → t < n
lowest-small n f t e = let q = cond_some (ltb (first n f) n) (first n f) t (sym e) in let l = ltb-true _ _ q.0 in omega arith
