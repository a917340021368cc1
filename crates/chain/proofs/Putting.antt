use Rattle.std.proofs.Common.{◌≡◌, ℕ, zero, suc, ◌+◌, ◌<◌, false, List, length, set, Some, None, sym, refl, ap, ◌∙◌, subst, arith}
use Rattle.bag.specs.Bag.{insert}
use Rattle.queue.specs.declared.entry.Entry.{Entry}
use Rattle.queue.specs.Entries.{entry_before}
use Rattle.chain.specs.declared.cell.Cell.{Cell}
use Rattle.chain.specs.declared.links.Links.{Links}
use Rattle.chain.specs.declared.links.Place.{Place}
use Rattle.chain.specs.Cells.{after, entry_at, walk, entries_at, Apart}
use Rattle.chain.specs.Chains.{chain_of, step_of, passed_last, Placed}
use Rattle.chain.proofs.Linking.{front-leaves, behind-leaves, linked_in}
use Rattle.chain.proofs.Inside.{step_inside}

-- An entry is put where it belongs.

-- what the cells xs, chained from h on, n of them and the others from f on, are to be afterwards
abbrev pub Put : Links → Entry → List Cell → ℕ → Type 0
Put l e xs h = Apart xs h (after l.cells.now l.free) (l.count + 1) × (entries_at xs (walk xs (l.count + 1) h) ≡ insert entry_before e (chain_of l))

module _ (l : Links) (e : Entry) (p : Place) (is : Placed l e p) where
  -- where there is a previous cell, it is the last one passed
  pub previous-inside : (number : ℕ) → p.previous ≡ Some number → number < length l.cells.now
  previous-inside number some = at-steps is.steps refl
    where
      at-steps : (k : ℕ) → is.steps ≡ k → number < length l.cells.now
      at-steps zero z = absurd (let none : passed_last l 0 ≡ Some number = ap (passed_last l) (sym z) ∙ sym is.previous ∙ some in cc)
      at-steps (suc j) z =
          let same : passed_last l (suc j) ≡ Some number = ap (passed_last l) (sym z) ∙ sym is.previous ∙ some in
          step_inside l j number (cc) (omega (arith, is.within))

  pub put-first : l.count < length l.cells.now → p.previous ≡ None → Put l e (set l.cells.now l.free (record { entry = e; next = p.next })) l.free
  put-first room none = at-steps is.steps refl
    where
      at-steps : (k : ℕ) → is.steps ≡ k → Put l e (set l.cells.now l.free (record { entry = e; next = p.next })) l.free
      at-steps zero z =
          let here : l.head ≡ p.next = ap (step_of l) (sym z) ∙ sym is.next in
          subst (λ (x : ℕ). (0 < l.count → entry_before (entry_at l.cells.now x) e ≡ false) → Put l e (set l.cells.now l.free (record { entry = e; next = x })) l.free) here
          (front-leaves l.cells.now l.head l.free l.count e l.linked room) (λ h. is.stopped (omega arith))
      at-steps (suc j) z = absurd (let some : passed_last l (suc j) ≡ None = ap (passed_last l) (sym z) ∙ sym is.previous ∙ none in cc)

  pub put-behind : (number : ℕ) → l.count < length l.cells.now → p.previous ≡ Some number → Put l e (linked_in l.cells.now l.free number p.next e) l.head
  put-behind number room some = at-steps is.steps refl
    where
      at-steps : (k : ℕ) → is.steps ≡ k → Put l e (linked_in l.cells.now l.free number p.next e) l.head
      at-steps zero z = absurd (let none : passed_last l 0 ≡ Some number = ap (passed_last l) (sym z) ∙ sym is.previous ∙ some in cc)
      at-steps (suc j) z =
          let same : passed_last l (suc j) ≡ Some number = ap (passed_last l) (sym z) ∙ sym is.previous ∙ some in
          let behind : step_of l j ≡ number = cc in
          let before : step_of l (suc j) ≡ p.next = ap (step_of l) (sym z) ∙ sym is.next in
          let there = behind-leaves l.cells.now l.head l.free l.count j e l.linked room (omega (arith, is.within)) (λ i m. is.passed i (omega arith))
          (λ m. subst (λ (x : ℕ). entry_before (entry_at l.cells.now x) e ≡ false) (sym before) (is.stopped (omega arith))) in
          subst (λ (x : ℕ). Put l e (linked_in l.cells.now l.free x p.next e) l.head) behind (subst (λ (x : ℕ). Put l e (linked_in l.cells.now l.free (step_of l j) x e) l.head) before there)
