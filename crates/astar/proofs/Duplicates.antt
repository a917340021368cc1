use Rattle.std.proofs.Common.{◌≡◌, ℕ, ◌<◌, min, Bool, true, false, cond, not, ◌&&◌, eqb, ltb, List, length, sym, refl, ◌∙◌, arith}
use Rattle.std.proofs.lemmas.Bool.{eq-eqb, eqb-true, lt-ltb, ltb-true, and_from, and_parts, not-true, false_from_ne_true}
use borrow.Author.Clash.{clash}
use Rattle.model.specs.Graph.{Graph, Lawful}
use Rattle.model.specs.Schedule.{Schedule}
use Rattle.model.specs.Partial.{Partial}
use Rattle.model.specs.NormalForm.{Same}
use Rattle.model.specs.Completion.{Completion}
use Rattle.model.specs.Nodes.{SearchNode, node_at, agree_on, is_duplicate, is_held}
use Rattle.model.proofs.Range.{every-all, every-from, any-on, any-has}
use Rattle.model.proofs.Rules.{finish-has, finish-le}

-- task t is placed in both, on one machine at one start, or in neither
abbrev Alike : Partial → Partial → ℕ → Type 0
Alike c d t =
    (c.placed t ≡ d.placed t)
    × (d.placed t ≡ true → (c.machine t ≡ d.machine t) × (c.start t ≡ d.start t))

agrees-alike : (c d : Partial) (t : ℕ) → agree_on c d t ≡ true → Alike c d t
agrees-alike c d t = go (c.placed t) refl
  where
    go : (b : Bool) → c.placed t ≡ b → cond b (d.placed t && (eqb (c.machine t) (d.machine t) && eqb (c.start t) (d.start t))) (not (d.placed t)) ≡ true → Alike c d t
    go true p e =
        let x = and_parts (d.placed t) _ e in
        let y = and_parts (eqb (c.machine t) (d.machine t)) _ x.1 in
        (p ∙ sym x.0, λ h. (eqb-true _ _ y.0, eqb-true _ _ y.1))
    go false p e = let n = not-true _ e in (p ∙ sym n, λ h. clash (d.placed t) h n)

agrees-itself : (c : Partial) (t : ℕ) → agree_on c c t ≡ true
agrees-itself c t = go (c.placed t) refl
  where
    go : (b : Bool) → c.placed t ≡ b → agree_on c c t ≡ true
    go true p = rw (p, eq-eqb (c.machine t) (c.machine t) refl, eq-eqb (c.start t) (c.start t) refl)
    go false p = rw p

pub duplicate-refl : (c : Partial) → is_duplicate c c ≡ true
unfolding is_duplicate
duplicate-refl c = every-from 32 (agree_on c c) (λ t h. agrees-itself c t)

agrees-back : (c d : Partial) (t : ℕ) → agree_on c d t ≡ true → agree_on d c t ≡ true
agrees-back c d t e = go (agrees-alike c d t e) (d.placed t) refl
  where
    go : Alike c d t → (b : Bool) → d.placed t ≡ b → agree_on d c t ≡ true
    go a true p = let m = a.1 p in rw (p, a.0 ∙ p, eq-eqb (d.machine t) (c.machine t) (sym m.0), eq-eqb (d.start t) (c.start t) (sym m.1))
    go a false p = rw (p, a.0 ∙ p)

pub duplicate-back : (c d : Partial) → is_duplicate c d ≡ true → is_duplicate d c ≡ true
unfolding is_duplicate
duplicate-back c d e = every-from 32 (agree_on d c) (λ t h. agrees-back c d t (every-all 32 (agree_on c d) e t h))

-- duplicates are the same in every task of the graph
pub duplicate-same : (g : Graph) → Lawful g → (c d : Partial) → is_duplicate c d ≡ true → Same g c d
unfolding is_duplicate
duplicate-same g L c d e = record {
  tasks = λ t h. (alike t h).0;
  machines = λ t h q. ((alike t h).1 q).0;
  starts = λ t h q. ((alike t h).1 q).1;
}
  where
    alike : (t : ℕ) → t < g.tasks → Alike c d t
    alike t h = agrees-alike c d t (every-all 32 (agree_on c d) e t (omega (arith, L.numbers.sizes.1)))

-- what completes a partial schedule completes what is the same
same-completion : (g : Graph) (c d : Partial) (p : Schedule) → Same g c d → Completion g c p → Completion g d p
same-completion g c d p S C = record {
  feasible = C.feasible;
  keeps = λ t h q. let K = C.keeps t h (S.tasks t h ∙ q) in (K.0 ∙ S.machines t h q, K.1 ∙ S.starts t h q);
  later = λ t h q. finish-le g d (p.machine t) (p.start t) (λ u hu qu mu.
      omega (arith, S.starts u hu qu, C.later t h (S.tasks t h ∙ q), finish-has g c (p.machine t) u hu (S.tasks u hu ∙ qu) (S.machines u hu qu ∙ mu)));
}

-- what completes a partial schedule completes its duplicate
pub duplicate-completion : (g : Graph) → Lawful g → (c d : Partial) (p : Schedule) → is_duplicate c d ≡ true → Completion g c p → Completion g d p
duplicate-completion g L c d p e = same-completion g c d p (duplicate-same g L c d e)

-- the test for a held duplicate decides whether a used node above 0 holds one
module _ (ns : List SearchNode) (u : ℕ) (c : Partial) where
  abbrev holds : ℕ → Bool
  holds i = ltb 0 i && is_duplicate c (node_at ns i).partial

  pub any-held : is_held ns u c ≡ true → (j : ℕ) × (0 < j) × (j < u) × (j < length ns) × (is_duplicate c (node_at ns j).partial ≡ true)
  unfolding is_held
  any-held e =
      let x = any-has (min u (length ns)) holds e in
      let y = and_parts (ltb 0 x.0) _ x.2 in
      (x.0, ltb-true 0 x.0 y.0, omega (arith, x.1), omega (arith, x.1), y.1)

  pub none-held : is_held ns u c ≡ false → (j : ℕ) → 0 < j → j < u → j < length ns → is_duplicate c (node_at ns j).partial ≡ false
  unfolding is_held
  none-held e j low high within = false_from_ne_true _ (λ q. clash (is_held ns u c) (any-on (min u (length ns)) j holds (omega arith) (and_from _ _ (lt-ltb 0 j low) q)) e)
