use Rattle.std.proofs.Common.{◌≡◌, ℕ, zero, suc, ◌+◌, ◌-◌, ◌<◌, ◌≤◌, true, false, List, [], ◌∷◌, length, Some, None, Option, sym, refl, ap, ◌∙◌, inl, inr, ⊎_elim, subst, arith}
use borrow.Author.Clash.{clash}
use Rattle.std.specs.List.{Contains}
use Rattle.std.proofs.lemmas.Bool.{eqb-true, eqb-false, ltb-true, ltb-false, leb-true, leb-false, and_parts, and_cases, cond_both}
use Rattle.std.proofs.lemmas.List.{length-map}
use Rattle.model.specs.Graph.{Graph, Lawful}
use Rattle.model.specs.Children.{choices, child, children}
use Rattle.model.specs.Bounds.{Bound}
use Rattle.model.proofs.Membership.{contains-first}
use Rattle.bag.specs.Bag.{first, InOrder}
use Rattle.bag.proofs.Bags.{insert-in-order, rest-in-order}
use Rattle.queue.specs.declared.entry.Entry.{Entry}
use Rattle.queue.specs.Entries.{entry_before}
use Rattle.queue.specs.EntryBags.{entries-ordered}
use Rattle.astar.specs.declared.sizes.Sizes.{Sizes}
use Rattle.astar.specs.declared.outcome.Outcome.{Outcome}
use Rattle.astar.specs.declared.outcome.Outcome.TheVariants.{Strange, Met, Paused, Full}
use Rattle.astar.specs.States.{SearchState, used, best_length}
use Rattle.astar.specs.Expansion.{expanded}
use Rattle.astar.specs.Advance.{is_own, is_met, is_sound, is_full, early_word, entry_word, first_word, last_word, ended_or, next_node, advanced}
use Rattle.astar.specs.Invariant.{partial_at}
use Rattle.astar.specs.Endings.{Foreign, NoneBelow, Spent, Sound, Unsound, Cramped, Applies, outcome_of, after}
use Rattle.astar.specs.Endings.Applies.{foreign, none_below, spent, unsound, cramped}
use Rattle.astar.specs.Laws.{AdvanceEnds, AdvanceMeets}
use Rattle.astar.proofs.Visits.{visit-cases, expansion-visits}
use Rattle.astar.proofs.Ripe.{sound-passes, passes-sound}
use Rattle.astar.proofs.Floor.{least-listed, floor-met}

-- A call of advance ends by the first of five tests that applies, at the first state to which one does.

-- an expansion counts one node more, and leaves the list in order
pub expansion-counts : (g : Graph) (b : Bound) (w : SearchState) (i : ℕ) → (expanded g b w i).tally.expanded ≡ w.tally.expanded + 1
expansion-counts g b w i = expansion-visits g b w i (λ v. v.tally.expanded ≡ w.tally.expanded + 1)
    (λ v c e. visit-cases g b _ v c (λ u. u.tally.expanded ≡ w.tally.expanded + 1) (λ f l. e) (λ f l. e) (λ l. e) (λ h. e) (λ f. e)) refl

expansion-order : (g : Graph) (b : Bound) (w : SearchState) (i : ℕ) → InOrder entry_before w.bag → InOrder entry_before (expanded g b w i).bag
expansion-order g b w i o = expansion-visits g b w i (λ v. InOrder entry_before v.bag)
    (λ v c h. visit-cases g b _ v c (λ u. InOrder entry_before u.bag) (λ f l. h) (λ f l. h) (λ l. h) (λ k. h)
    (λ f. insert-in-order entry_before entries-ordered _ v.bag h))
    (rest-in-order entry_before entries-ordered w.bag o)

module _ (g : Graph) (L : Lawful g) (z : Sizes) (limit allowed : ℕ) (w : SearchState) where
  -- the test for the search's own memory decides
  pub own-not : is_own g z w limit ≡ true → Foreign g z limit w → ⊥
  own-not q f =
      let tasks = and_parts _ _ q in
      let machines = and_parts _ _ tasks.1 in
      let nodes = and_parts _ _ machines.1 in
      let entries = and_parts _ _ nodes.1 in
      ⊎_elim (λ n. n (eqb-true _ _ tasks.0))
      (⊎_elim (λ n. n (eqb-true _ _ machines.0))
      (⊎_elim (λ n. n (eqb-true _ _ nodes.0))
      (⊎_elim (λ n. n (eqb-true _ _ entries.0)) (λ l. absurd (omega (arith, l, leb-true _ _ entries.1)))))) f

  pub not-own : is_own g z w limit ≡ false → Foreign g z limit w
  not-own q =
      ⊎_elim (λ e. inl (eqb-false _ _ e)) (λ r. inr
      (⊎_elim (λ e. inl (eqb-false _ _ e)) (λ r. inr
      (⊎_elim (λ e. inl (eqb-false _ _ e)) (λ r. inr
      (⊎_elim (λ e. inl (eqb-false _ _ e)) (λ e. inr (leb-false _ _ e)) (and_cases _ _ r))) (and_cases _ _ r))) (and_cases _ _ r))) (and_cases _ _ q)

  -- the first entry's bound tells of all
  met-none : (es : List Entry) → InOrder entry_before es → is_met w es ≡ true → (e : Entry) → Contains es e → best_length w ≤ e.bound
  met-none [] o q e c = absurd (omega (arith, c.1))
  met-none (x ∷ es) o q e c = omega (arith, leb-true _ _ q, least-listed (best_length w) (x ∷ es) o e c)

  not-met : (es : List Entry) → is_met w es ≡ false → ((e : Entry) → Contains es e → best_length w ≤ e.bound) → ⊥
  not-met [] q n = clash true refl q
  not-met (x ∷ es) q n = absurd (omega (arith, leb-false _ _ q, n x (contains-first x es)))

  -- no test with a number below n applies
  abbrev NoneUnder : ℕ → Type 0
  NoneUnder n = (m : ℕ) → m < n → Applies g z limit allowed w m → ⊥

  none-under : (n : ℕ) → (1 < n → Foreign g z limit w → ⊥) → (2 < n → NoneBelow w → ⊥) → (3 < n → Spent allowed w → ⊥)
      → (4 < n → Unsound g w → ⊥) → (5 < n → Cramped g w → ⊥) → NoneUnder n
  none-under n a b c d e m l (foreign x) = a l x
  none-under n a b c d e m l (none_below x) = b l x
  none-under n a b c d e m l (spent x) = c l x
  none-under n a b c d e m l (unsound x) = d l x
  none-under n a b c d e m l (cramped x) = e l x

  -- a call ends at w with o
  abbrev Ends : Outcome → Type 0
  Ends o = (n : ℕ) × Applies g z limit allowed w n × NoneUnder n × (o ≡ outcome_of n)

  -- the first two tests
  early-ends : (P : Option Outcome → Type 0) → InOrder entry_before w.bag → ((o : Outcome) → Ends o → P (Some o))
      → (is_met w w.bag ≡ false → (Foreign g z limit w → ⊥) → (NoneBelow w → ⊥) → P None) → P (early_word g z w limit)
  early-ends P o ends goes = cond_both _ _ _ P
      (λ q. cond_both _ _ _ P
      (λ m. ends Met (
        2,
        none_below (met-none w.bag o m),
        none-under 2 (λ l. own-not q) (λ l. absurd (omega arith)) (λ l. absurd (omega arith)) (λ l. absurd (omega arith)) (λ l. absurd (omega arith)),
        refl,
      ))
      (λ m. goes m (own-not q) (not-met w.bag m)))
      (λ q. ends Strange (
        1,
        foreign (not-own q),
        none-under 1 (λ l. absurd (omega arith)) (λ l. absurd (omega arith)) (λ l. absurd (omega arith)) (λ l. absurd (omega arith)) (λ l. absurd (omega arith)),
        refl,
      ))

  -- the last two
  entry-ends : (P : Option Outcome → Type 0) → is_met w w.bag ≡ false → (Foreign g z limit w → ⊥) → (NoneBelow w → ⊥) → (Spent allowed w → ⊥)
      → ((o : Outcome) → Ends o → P (Some o)) → (((n : ℕ) → Applies g z limit allowed w n → ⊥) → P None) → P (entry_word g w w.bag)
  entry-ends P m f n t ends goes = go w.bag refl m
    where
      go : (es : List Entry) → w.bag ≡ es → is_met w es ≡ false → P (entry_word g w es)
      go [] e q = clash true refl q
      go (x ∷ es) e q = cond_both _ _ _ P
          (λ s. cond_both _ _ _ P
          (λ k. ends Full (
            5,
            cramped (x, ap first e, omega (arith, ltb-true _ _ k, children-as-choices)),
            none-under 5 (λ l. f) (λ l. n) (λ l. t) (λ l. right s) (λ l. absurd (omega arith)),
            refl,
          ))
          (λ k. goes (λ m. none-under (suc m) (λ l. f) (λ l. n) (λ l. t) (λ l. right s) (λ l. roomy k) m (omega arith))))
          (λ s. ends Strange (
            4,
            unsound (x, ap first e, λ S. clash (is_sound g w x) (sound-passes g L w x S) s),
            none-under 4 (λ l. f) (λ l. n) (λ l. t) (λ l. absurd (omega arith)) (λ l. absurd (omega arith)),
            refl,
          ))
        where
          -- what the first entry is told to be holds of x
          at : (Q : Entry → Type 0) → (y : Entry) → first w.bag ≡ Some y → Q y → Q x
          at Q y h p = let same : y ≡ x = let both : Some y ≡ Some x = sym h ∙ ap first e in cc in subst Q same p

          children-as-choices : length (children g (partial_at w x.node)) ≡ length (choices g (partial_at w x.node))
          children-as-choices = length-map (choices g (partial_at w x.node)) (child g (partial_at w x.node))

          right : is_sound g w x ≡ true → Unsound g w → ⊥
          right s u = at (λ y. Sound g w y → ⊥) u.0 u.1 u.2 (passes-sound g L w x s)

          roomy : is_full g w x.node ≡ false → Cramped g w → ⊥
          roomy k u = let l = at (λ y. length w.nodes - used w < length (children g (partial_at w y.node))) u.0 u.1 u.2 in
              absurd (omega (arith, l, ltb-false _ _ k, children-as-choices))

module _ (g : Graph) (b : Bound) (z : Sizes) (limit : ℕ) (L : Lawful g) where
  -- a call that may expand nodes until `allowed` are expanded leads from w to what it answers
  abbrev Leads : ℕ → SearchState → SearchState × Outcome → Type 0
  Leads allowed w r = Ends g L z limit allowed r.0 r.1 × (j : ℕ) × (r.0 ≡ after g b j w)
      × ((i n : ℕ) → i < j → Applies g z limit allowed (after g b i w) n → ⊥)

  at-once : (allowed : ℕ) (w : SearchState) (o : Outcome) → Ends g L z limit allowed w o → Leads allowed w (w, o)
  unfolding after
  at-once allowed w o e = (e, 0, refl, λ i n l. absurd (omega arith))

  one-more : (allowed : ℕ) (w : SearchState) (r : SearchState × Outcome) → ((n : ℕ) → Applies g z limit allowed w n → ⊥)
      → Leads allowed (expanded g b w (next_node w.bag)) r → Leads allowed w r
  unfolding after
  one-more allowed w r none l = (l.0, suc l.1, l.2, before)
    where
      before : (i n : ℕ) → i < suc l.1 → Applies g z limit allowed (after g b i w) n → ⊥
      before zero n h = none n
      before (suc i) n h = l.3 i n (omega arith)

  leads : (k : ℕ) (w : SearchState) → InOrder entry_before w.bag → Leads (w.tally.expanded + k) w (advanced g b z limit k w)
  unfolding advanced
  leads zero w o = early-ends g L z limit (w.tally.expanded + 0) w (λ x. Leads (w.tally.expanded + 0) w (w, last_word x)) o
      (at-once _ w)
      (λ q f n. at-once _ w Paused (
        3,
        spent (omega arith),
        none-under g L z limit _ w 3 (λ l. f) (λ l. n)
            (λ l. absurd (omega arith)) (λ l. absurd (omega arith)) (λ l. absurd (omega arith)),
        refl,
      ))
  leads (suc k) w o = early-ends g L z limit all w (λ x. Leads all w (ended_or (first_word x (entry_word g w w.bag)) w (advanced g b z limit k v))) o
      (at-once all w)
      (λ q f n. entry-ends g L z limit all w (λ x. Leads all w (ended_or x w (advanced g b z limit k v))) q f n (λ e. absurd (omega (arith, e)))
      (at-once all w)
      (λ none. one-more all w (advanced g b z limit k v) none
      (subst (λ n. Leads n v (advanced g b z limit k v)) (omega (arith, expansion-counts g b w (next_node w.bag)))
      (leads k v (expansion-order g b w (next_node w.bag) o)))))
    where
      all : ℕ
      all = w.tally.expanded + suc k

      v : SearchState
      v = expanded g b w (next_node w.bag)

pub advance-ends : AdvanceEnds
advance-ends g b z limit k w L o = let l = leads g b z limit L k w o in (l.0, (l.1, l.2, l.3))

-- Met is the outcome of the second test alone
met-by : (g : Graph) (z : Sizes) (limit allowed : ℕ) (v : SearchState) (n : ℕ) → Applies g z limit allowed v n → outcome_of n ≡ Met → NoneBelow v
met-by g z limit allowed v n (foreign f) e = cc
met-by g z limit allowed v n (none_below f) e = f
met-by g z limit allowed v n (spent f) e = cc
met-by g z limit allowed v n (unsound f) e = cc
met-by g z limit allowed v n (cramped f) e = cc

pub advance-meets : AdvanceMeets
advance-meets g b z limit k w L o e =
    let r = (advance-ends g b z limit k w L o).0 in
    floor-met (advanced g b z limit k w).0 (met-by g z limit _ _ r.0 r.1 (sym r.3 ∙ e))
