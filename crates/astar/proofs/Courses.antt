use Rattle.std.proofs.Common.{◌≡◌, ℕ, zero, suc, ◌+◌, ◌-◌, ◌<◌, ◌≤◌, Bool, true, false, List, [], ◌∷◌, length, Some, sym, refl, ap, subst, inl, inr, arith}
use native.Mathlib.Decide.{ℕ_discrete, dec_lt}
use borrow.Author.Clash.{clash}
use Rattle.std.specs.List.{Contains}
use Rattle.model.specs.Graph.{Graph, Lawful}
use Rattle.model.specs.Children.{children}
use Rattle.model.specs.Bounds.{Bound}
use Rattle.model.proofs.Range.{cond-le}
use Rattle.bag.specs.Bag.{first}
use Rattle.queue.specs.declared.entry.Entry.{Entry}
use Rattle.astar.specs.declared.sizes.Sizes.{Sizes}
use Rattle.astar.specs.States.{SearchState, used}
use Rattle.astar.specs.Expansion.{expanded}
use Rattle.astar.specs.Advance.{next_node, is_sound}
use Rattle.astar.specs.Invariant.{partial_at}
use Rattle.astar.specs.Endings.{Sound, Applies, after}
use Rattle.astar.specs.Endings.Applies.{foreign, none_below, unsound, cramped}
use Rattle.astar.specs.Fates.{Fate, same, count, ByChildren}
use Rattle.astar.specs.Fates.Fate.{stored}
use Rattle.astar.specs.Course.{Course, AdvanceVisits}
use Rattle.astar.specs.Course.Course.{here, on}
use Rattle.astar.proofs.Ripe.{sound-passes, passes-sound}
use Rattle.astar.proofs.Ending.{advance-ends}
use Rattle.astar.proofs.Fates.{expansion-visits-all}

-- A call of advance goes from expansion to expansion.

count-le : (e : Fate) (es : List Fate) → count e es ≤ length es
count-le e [] = omega arith
count-le e (f ∷ es) = omega (arith, cond-le (same e f) 1 1 (λ q. omega arith), count-le e es)

module _ (g : Graph) (b : Bound) (z : Sizes) (limit allowed : ℕ) (L : Lawful g) where
  -- where no test applies, the node whose entry comes first is expanded, with room for its children
  step : (w : SearchState) → used w ≤ z.nodes → ((n : ℕ) → Applies g z limit allowed w n → ⊥)
      → (e : Entry) × (first w.bag ≡ Some e) × ByChildren g b w e.node (expanded g b w (next_node w.bag)) × (used (expanded g b w (next_node w.bag)) ≤ z.nodes)
  step w room none = go w.bag refl
    where
      size : length w.nodes ≡ z.nodes
      size = elim (ℕ_discrete (length w.nodes) z.nodes) [ yes e ↦ e | no ne ↦ absurd (none 1 (foreign (inr (inr (inl ne))))) ]

      go : (es : List Entry) → w.bag ≡ es
          → (e : Entry) × (first w.bag ≡ Some e) × ByChildren g b w e.node (expanded g b w (next_node w.bag)) × (used (expanded g b w (next_node w.bag)) ≤ z.nodes)
      go [] q = absurd (none 2 (none_below (λ e c. absurd (omega (arith, (subst (λ xs. Contains xs e) q c).1)))))
      go (e ∷ es) q =
          let f : first w.bag ≡ Some e = ap first q in
          let i : next_node w.bag ≡ e.node = ap next_node q in
          let s = sound (is_sound g w e) refl f in
          let fits = roomy f in
          let x : ByChildren g b w e.node (expanded g b w (next_node w.bag)) =
          subst (λ j. ByChildren g b w e.node (expanded g b w j)) (sym i) (expansion-visits-all g b w e.node (omega (arith, s.right.0.1, room, size)) fits) in
          (e, f, x, omega (arith, x.tallied.stored, count-le stored x.fates, x.as_many, fits, size))
        where
          sound : (v : Bool) → is_sound g w e ≡ v → first w.bag ≡ Some e → Sound g w e
          sound true p f = passes-sound g L w e p
          sound false p f = absurd (none 4 (unsound (e, f, λ S. clash (is_sound g w e) (sound-passes g L w e S) p)))

          roomy : first w.bag ≡ Some e → used w + length (children g (partial_at w e.node)) ≤ length w.nodes
          roomy f = elim (dec_lt (length w.nodes - used w) (length (children g (partial_at w e.node)))) [
            | yes l ↦ absurd (none 5 (cramped (e, f, l)))
            | no l ↦ omega (arith, l, room, size)
          ]

  course : (j : ℕ) (w : SearchState) → used w ≤ z.nodes → ((i n : ℕ) → i < j → Applies g z limit allowed (after g b i w) n → ⊥) → Course g b w (after g b j w)
  unfolding after
  course zero w room none = here
  course (suc j) w room none =
      let x = step w room (λ n. none 0 n (omega arith)) in
      on x.1 x.2 (course j (expanded g b w (next_node w.bag)) x.3 (λ i n h. none (suc i) n (omega (arith, h))))

pub advance-visits : AdvanceVisits
advance-visits g b z limit k w L o room =
    let r = (advance-ends g b z limit k w L o).1 in
    subst (Course g b w) (sym r.1) (course g b z limit (w.tally.expanded + k) L r.0 w room r.2)
