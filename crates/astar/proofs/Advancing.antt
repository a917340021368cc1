use Rattle.std.proofs.Common.{◌≡◌, ℕ, zero, suc, ◌+◌, ◌<◌, ◌≤◌, ◌≢◌, Bool, true, false, cond, List, [], ◌∷◌, length, Some, None, Option, refl, ap, ◌∙◌, arith}
use borrow.Author.Clash.{clash}
use Rattle.std.specs.Prelude.{◌==◌, nat_le}
use Rattle.std.specs.List.{AllByRecursion}
use Rattle.std.proofs.lemmas.Bool.{eq-eqb, and_from, and_parts, ltb-false}
use Rattle.model.specs.Graph.{Graph, Lawful}
use Rattle.model.specs.Children.{choices}
use Rattle.model.specs.Bounds.{Bound, IsLowerBound}
use Rattle.queue.specs.declared.entry.Entry.{Entry}
use Rattle.astar.specs.declared.sizes.Sizes.{Sizes}
use Rattle.astar.specs.declared.outcome.Outcome.{Outcome}
use Rattle.astar.specs.declared.outcome.Outcome.TheVariants.{Strange, Met, Paused, Full}
use Rattle.astar.specs.States.{SearchState, used, best_length}
use Rattle.astar.specs.Expansion.{expanded}
use Rattle.astar.specs.Advance.{is_own, is_met, is_full, is_sound, early_word, late_word, entry_word, turn_word, first_word, last_word, ended_or, next_node, advanced}
use Rattle.astar.specs.Invariant.{IsRight, partial_at}
use Rattle.astar.specs.Laws.{floor, Standing, AdvanceKeeps}
use Rattle.astar.proofs.Ripe.{right-sound}
use Rattle.astar.proofs.Expanding.{expansion-keeps, expansion-size}

-- A call of advance keeps what holds between two calls.

module _ (g : Graph) (b : Bound) (z : Sizes) (limit : ℕ) (L : Lawful g) (lower : IsLowerBound b) where
  -- what comes of a search that stands
  Kept : SearchState → SearchState × Outcome → Type 0
  Kept w r = Standing g z limit r.0 × (floor w ≤ floor r.0) × (best_length r.0 ≤ best_length w) × (r.1 ≢ Strange)

  stays : (w : SearchState) (o : Outcome) → Standing g z limit w → o ≢ Strange → Kept w (w, o)
  unfolding Kept
  stays w o S ne = (S, omega arith, omega arith, ne)

  -- what a word of a turn tells: none, that there is a node to expand and room for its children
  Told : SearchState → List Entry → Option Outcome → Type 0
  Told w es None = (0 < length es) × (used w + length (choices g (partial_at w (next_node es))) ≤ length w.nodes)
  Told w es (Some o) = o ≢ Strange

  met-is-not : Met ≢ Strange
  met-is-not e = cc

  full-is-not : Full ≢ Strange
  full-is-not e = cc

  paused-is-not : Paused ≢ Strange
  paused-is-not e = cc

  -- where the first entry is right, the last two tests are never Strange
  late-told : (w : SearchState) (e : Entry) (es : List Entry) → used w ≤ length w.nodes → is_sound g w e ≡ true → Told w (e ∷ es) (late_word g w e)
  unfolding Told
  late-told w e es room sound = rw sound (full (is_full g w e.node) refl)
    where
      full : (f : Bool) → is_full g w e.node ≡ f → Told w (e ∷ es) (cond f (Some Full) None)
      full true q = full-is-not
      full false q = (omega arith, omega (arith, room, ltb-false _ _ q))

  turn-told : (w : SearchState) → Standing g z limit w → Told w w.bag (turn_word g z w limit)
  unfolding Told
  turn-told w S = rw S.own (met (is_met w w.bag) refl)
    where
      entry : (es : List Entry) → is_met w es ≡ false → AllByRecursion (IsRight w) es → Told w es (entry_word g w es)
      entry [] q r = clash true refl q
      entry (e ∷ es) q r = late-told w e es S.invariant.grown.room (right-sound g w L S.invariant.grown e r.0)

      met : (m : Bool) → is_met w w.bag ≡ m → Told w w.bag (first_word (cond m (Some Met) None) (entry_word g w w.bag))
      met true q = met-is-not
      met false q = entry w.bag q S.invariant.listed.right

  last-told : (w : SearchState) → Standing g z limit w → last_word (early_word g z w limit) ≢ Strange
  last-told w S = rw S.own (met (is_met w w.bag))
    where
      met : (m : Bool) → last_word (cond m (Some Met) None) ≢ Strange
      met true = met-is-not
      met false = paused-is-not

  -- an expansion leaves the memory this search's
  own-on : (w v : SearchState) → is_own g z w limit ≡ true → length v.nodes ≡ length w.nodes → length v.bag ≡ v.tally.waiting → is_own g z v limit ≡ true
  own-on w v own size counted =
      let a = and_parts _ _ own in
      let c = and_parts _ _ a.1 in
      let d = and_parts _ _ c.1 in
      let e = and_parts _ _ d.1 in
      and_from _ _ a.0 (and_from _ _ c.0 (and_from _ _ (ap (λ n. n == z.nodes) size ∙ d.0)
      (and_from _ _ (eq-eqb _ _ counted) (ap (λ n. nat_le n limit) size ∙ e.1))))

  kept : (k : ℕ) (w : SearchState) → Standing g z limit w → Kept w (advanced g b z limit k w)
  unfolding advanced Kept Told
  kept zero w S = stays w (last_word (early_word g z w limit)) S (last-told w S)
  kept (suc k) w S = go (turn_word g z w limit) (turn-told w S) (kept k)
    where
      v : SearchState
      v = expanded g b w (next_node w.bag)

      go : (o : Option Outcome) → Told w w.bag o → ((u : SearchState) → Standing g z limit u → Kept u (advanced g b z limit k u)) → Kept w (ended_or o w (advanced g b z limit k v))
      go (Some o) t later = stays w o S t
      go None t later =
          let x = expansion-keeps g b w L lower S.invariant t.0 t.1 in
          let y = later v (record { own = own-on w v S.own (expansion-size g b w (next_node w.bag)) x.0.counted.listed; invariant = x.0 }) in
          (y.0, omega (arith, x.1, y.1), omega (arith, x.2, y.2), y.3)

pub advance-keeps : AdvanceKeeps
unfolding Kept
advance-keeps g b z limit k w L lower S = kept g b z limit L lower k w S
