use Rattle.std.proofs.Common.{◌≡◌, ℕ, ◌<◌, ◌≤◌, Bool, true, false, eqb, IsTrue, ◌↔◌, refl, sym, ◌∙◌, arith}
use Rattle.std.proofs.lemmas.Bool.{eq-eqb, eqb-true, lt-ltb, ltb-true, le-leb, leb-true, and_from, and_parts}
use Rattle.model.specs.Range.{every}
use Rattle.model.specs.Graph.{Graph, Lawful}
use Rattle.model.specs.Partial.{Partial, Complete, Free, arrival, start_on}
use Rattle.model.specs.NormalForm.{Normal, OnMachines, normal_form}
use Rattle.model.specs.Nodes.{agree_on, is_duplicate}
use Rattle.model.specs.Soundness.{Orderly, in_range, comes_after, is_orderly, is_complete}
use Rattle.model.proofs.Range.{top-le, cond-le, every-all, every-from}
use Rattle.model.proofs.Rules.{finish-le}
use Rattle.model.proofs.Naming.{form-renamed, form-normal, normal-once}
use Rattle.model.proofs.Starts.{delay-le}

-- the test for a complete partial schedule decides
pub complete-decides : (g : Graph) (s : Partial) → IsTrue (is_complete g s) ↔ Complete g s
unfolding is_complete
complete-decides g s = (every-all g.tasks s.placed, every-from g.tasks s.placed)

-- where two agree on a task that is placed in the first
agree-parts : (a b : Partial) (t : ℕ) → agree_on a b t ≡ true → a.placed t ≡ true → a.machine t ≡ b.machine t
agree-parts a b t e p = eqb-true _ _ (and_parts _ _ (and_parts (b.placed t) _ (rw p at e)).1).0

agree-from : (a b : Partial) (t : ℕ) → b.placed t ≡ a.placed t → (a.placed t ≡ true → (a.machine t ≡ b.machine t) × (a.start t ≡ b.start t)) → agree_on a b t ≡ true
agree-from a b t e h = go (a.placed t) refl
  where
    go : (x : Bool) → a.placed t ≡ x → agree_on a b t ≡ true
    go true p = rw (p, e ∙ p, eq-eqb _ _ (h p).0, eq-eqb _ _ (h p).1) refl
    go false p = rw (p, e ∙ p) refl

module _ (g : Graph) (L : Lawful g) (s : Partial) where
  low : (t : ℕ) → t < g.tasks → t < 32
  low t h = omega (arith, L.numbers.sizes.1)

  -- the normal form that agrees with it
  duplicate-normal : OnMachines g s → is_duplicate s (normal_form g s) ≡ true → Normal g s
  unfolding is_duplicate normal_form
  duplicate-normal on d t k h p l =
      let same : (u : ℕ) → u < g.tasks → s.placed u ≡ true → s.machine u ≡ (normal_form g s).machine u =
      λ u hu q. agree-parts s (normal_form g s) u (every-all 32 (agree_on s (normal_form g s)) d u (low u hu)) q in
      let x = form-normal g s on t k h p (omega (arith, same t h p)) in
      (x.0, x.1, x.2, same x.0 (omega (arith, x.1)) x.2 ∙ x.3)

  normal-duplicate : ((t : ℕ) → t < 32 → s.placed t ≡ true → t < g.tasks) → OnMachines g s → Normal g s → is_duplicate s (normal_form g s) ≡ true
  unfolding is_duplicate normal_form
  normal-duplicate tasks on N = every-from 32 (agree_on s (normal_form g s)) (λ t h. agree-from s (normal_form g s) t refl (λ p.
      let ht = tasks t h p in
      (sym (normal-once g s (normal_form g s) (form-renamed g s on) N (form-normal g s on) g.tasks t ht ht p), refl)))

  -- what the test of one place tells
  range-parts : (t : ℕ) → in_range g s t ≡ true → s.placed t ≡ true → (t < g.tasks) × (s.machine t < g.machines) × (s.start t ≤ 64000)
  range-parts t e p =
      let a = and_parts _ _ (rw p at e) in
      let b = and_parts _ _ a.1 in
      (ltb-true t g.tasks a.0, ltb-true _ _ b.0, leb-true _ _ b.1)

  range-from : (t : ℕ) → (s.placed t ≡ true → (t < g.tasks) × (s.machine t < g.machines) × (s.start t ≤ 64000)) → in_range g s t ≡ true
  range-from t h = go (s.placed t) refl
    where
      go : (x : Bool) → s.placed t ≡ x → in_range g s t ≡ true
      go true p = let x = h p in rw p (and_from _ _ (lt-ltb t g.tasks x.0) (and_from _ _ (lt-ltb _ _ x.1) (le-leb _ _ x.2)))
      go false p = rw p refl

  after-part : (k : ℕ) → comes_after g s k ≡ true → s.placed (g.to k) ≡ true → s.placed (g.from k) ≡ true
  after-part k e p = rw p at e

  after-from : (k : ℕ) → (s.placed (g.to k) ≡ true → s.placed (g.from k) ≡ true) → comes_after g s k ≡ true
  after-from k h = go (s.placed (g.to k)) refl
    where
      go : (x : Bool) → s.placed (g.to k) ≡ x → comes_after g s k ≡ true
      go true p = rw p (h p)
      go false p = rw p refl

  -- the test for an orderly partial schedule decides
  pub orderly-decides : IsTrue (is_orderly g s) ↔ Orderly g s
  unfolding is_orderly
  orderly-decides = (there, back)
    where
      there : IsTrue (is_orderly g s) → Orderly g s
      there e =
          let a = and_parts (every 32 (in_range g s)) _ e in
          let b = and_parts (every g.count (comes_after g s)) _ a.1 in
          let in_place = λ (t : ℕ) (h : t < 32) (p : s.placed t ≡ true). range-parts t (every-all 32 (in_range g s) a.0 t h) p in
          let on : OnMachines g s = λ t h p. (in_place t (low t h) p).1 in
          record {
            tasks = λ t h p. (in_place t h p).0;
            on = on;
            starts = λ t h p. (in_place t (low t h) p).2;
            before = λ k h p. after-part k (every-all g.count (comes_after g s) b.0 k h) p;
            normal = duplicate-normal on b.1;
          }

      back : Orderly g s → IsTrue (is_orderly g s)
      back O = and_from _ _
          (every-from 32 (in_range g s) (λ t h. range-from t (λ p. let ht = O.tasks t h p in (ht, O.on t ht p, O.starts t ht p))))
          (and_from _ _ (every-from g.count (comes_after g s) (λ k h. after-from k (O.before k h))) (normal-duplicate O.tasks O.on O.normal))

  -- where a free task of an orderly partial schedule starts
  pub start-orderly : Orderly g s → (t m : ℕ) → Free g s t → start_on g s t m ≤ 66000
  start-orderly O t m F =
      let a = top-le g.count (arrival g s t m) 66000
      (λ k hk. cond-le (eqb (g.to k) t) _ 66000 (λ q. let f = (L.numbers.ends k hk).0 in
      omega (arith, O.starts (g.from k) f (F.2 k hk (eqb-true _ _ q)), (L.numbers.works (g.from k) f).1, delay-le g L.numbers.costs k hk (eqb (s.machine (g.from k)) m)))) in
      let b = finish-le g s m 66000 (λ u hu q e. omega (arith, O.starts u hu q, (L.numbers.works u hu).1)) in
      omega arith
