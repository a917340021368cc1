use Rattle.std.proofs.Common.{◌≡◌, ℕ, ◌+◌, ◌<◌, ◌≤◌, min, max, map, Bool, cond, true, false, length, refl, sym, ap, ◌∙◌, List, [], ◌∷◌, set, ltb, leb, arith, length-set, get_or-set_same, get_or-set_other}
use borrow.Author.Clash.{clash}
use Rattle.std.proofs.lemmas.Bool.{ltb-true, ltb-false, leb-true, leb-false, lt-ltb, le-leb, lt-leb, le-ltb, and_from, false_from_ne_true}
use Rattle.std.proofs.lemmas.List.{length-map}
use Rattle.std.specs.List.{fold}
use Rattle.model.specs.Graph.{Graph}
use Rattle.model.specs.Schedule.{makespan}
use Rattle.model.specs.Partial.{Partial, Complete, Unfinished, whole}
use Rattle.model.specs.Children.{choices, child}
use Rattle.model.specs.Bounds.{Bound}
use Rattle.model.specs.Nodes.{SearchNode, no_node, node_at, is_held}
use Rattle.model.specs.Soundness.{is_complete}
use Rattle.model.proofs.Range.{every-from, every-off, any-on}
use Rattle.astar.specs.States.{SearchState, used, best_length, best_node, waiting_node, expanded_node}
use Rattle.astar.specs.Expansion.{completed, stored as kept, kept_or_dropped, visited, visited_by, taken, expanded}
use Rattle.astar.specs.Fates.{Held, Fate, ComesTo, Written, Leaves, Visits, count, ChildFates, ExpansionVisits}
use Rattle.astar.specs.Fates.Fate.{complete, pruned, duplicate, stored}
use Rattle.astar.specs.Fates.Visits.{none, more}
use Rattle.astar.proofs.Duplicates.{any-held}
use Rattle.astar.proofs.Visiting.{complete-all, lacks-one}
use Rattle.astar.proofs.Counts.{size-visit, used-visit}

-- What becomes of a child, by the tests.

full : (g : Graph) (c : Partial) → Complete g c → is_complete g c ≡ true
unfolding is_complete
full g c h = every-from g.tasks c.placed h

lacking : (g : Graph) (c : Partial) → Unfinished g c → is_complete g c ≡ false
unfolding is_complete
lacking g c h = every-off g.tasks h.0 c.placed h.1 h.2

-- a node is written
written : (w : SearchState) (i : ℕ) (x : SearchNode) (v : SearchState) → i < length w.nodes → v.nodes ≡ set w.nodes i x → Written w i x v
written w i x v l e = record {
  node = ap (λ ns. node_at ns i) e ∙ get_or-set_same w.nodes i x no_node l;
  others = λ j ne. ap (λ ns. node_at ns j) e ∙ get_or-set_other w.nodes i j x no_node ne;
  size = ap (λ (ns : List SearchNode). length ns) e ∙ length-set w.nodes i x;
}

module _ (w : SearchState) (c : Partial) (room : used w < length w.nodes) where
  held : Held w c → is_held w.nodes (used w) c ≡ true
  unfolding is_held
  held h = any-on (min (used w) (length w.nodes)) h.0 _ (omega (arith, h.1.1, room)) (and_from _ _ (lt-ltb 0 h.0 h.1.0) h.2)

  holds : is_held w.nodes (used w) c ≡ true → Held w c
  holds q = let x = any-held w.nodes (used w) c q in (x.0, (x.1, x.2), x.4)

  not-held : (Held w c → ⊥) → is_held w.nodes (used w) c ≡ false
  not-held n = false_from_ne_true _ (λ q. n (holds q))

  holds-none : is_held w.nodes (used w) c ≡ false → Held w c → ⊥
  holds-none q h = clash (is_held w.nodes (used w) c) (held h) q

module _ (g : Graph) (b : Bound) (up : ℕ) (w : SearchState) (c : Partial) (room : used w < length w.nodes) where
  abbrev y : ℕ
  y = max up (b g c)

  whole-child : is_complete g c ≡ true → visited g b up w c ≡ completed g w c
  unfolding visited
  whole-child e = rw e refl

  part-child : is_complete g c ≡ false → visited g b up w c ≡ kept_or_dropped w c y
  unfolding visited
  part-child e = rw e refl

  better : makespan g (whole c) < best_length w → Leaves g y w c (completed g w c) complete
  better l =
      let e : (completed g w c).nodes ≡ set w.nodes 0 (best_node g c) = ap (λ (q : Bool). cond q (set w.nodes 0 (best_node g c)) w.nodes) (lt-ltb _ _ l) in
      let n = written w 0 (best_node g c) (completed g w c) (omega (arith, room)) e in
      let m : best_length (completed g w c) ≡ makespan g (whole c) = ap (λ (x : SearchNode). x.bound) n.node in
      record { tally = refl; lesser = omega (arith, l, m); old = λ h. absurd (omega (arith, h, l)); new = λ h. n; list = refl }

  as-long : best_length w ≤ makespan g (whole c) → Leaves g y w c (completed g w c) complete
  as-long l =
      let e : (completed g w c).nodes ≡ w.nodes = ap (λ (q : Bool). cond q (set w.nodes 0 (best_node g c)) w.nodes) (le-ltb _ _ l) in
      let m : best_length (completed g w c) ≡ best_length w = ap (λ (ns : List SearchNode). (node_at ns 0).bound) e in
      record { tally = refl; lesser = omega (arith, l, m); old = λ h. e; new = λ h. absurd (omega (arith, h, l)); list = refl }

  shorter : (q : Bool) → ltb (makespan g (whole c)) (best_length w) ≡ q → Leaves g y w c (completed g w c) complete
  shorter true q = better (ltb-true _ _ q)
  shorter false q = as-long (ltb-false _ _ q)

  pub leaves : (e : Fate) → ComesTo g y w c e → Leaves g y w c (visited g b up w c) e
  leaves complete h = rw (whole-child (full g c h)) (shorter _ refl)
  leaves pruned h = rw (part-child (lacking g c h.0), le-leb _ _ h.1) (record { tally = refl; nodes = refl; list = refl })
  leaves duplicate h = rw (part-child (lacking g c h.0), lt-leb _ _ h.1, held w c room h.2) (record { tally = refl; nodes = refl; list = refl })
  leaves stored h = rw (part-child (lacking g c h.0), lt-leb _ _ h.1, not-held w c room h.2)
      (record {
        tally = refl;
        node = written w (used w) (waiting_node c y) (kept w c y) room refl;
        list = refl;
      })

  -- each child comes to one of the fates
  pub comes : (e : Fate) × ComesTo g y w c e
  comes = go (is_complete g c) refl
    where
      third : Unfinished g c → y < best_length w → (q : Bool) → is_held w.nodes (used w) c ≡ q → (e : Fate) × ComesTo g y w c e
      third h l true q = (duplicate, (h, l, holds w c room q))
      third h l false q = (stored, (h, l, holds-none w c room q))

      second : Unfinished g c → (q : Bool) → leb (best_length w) y ≡ q → (e : Fate) × ComesTo g y w c e
      second h true q = (pruned, (h, leb-true _ _ q))
      second h false q = third h (leb-false _ _ q) (is_held w.nodes (used w) c) refl

      go : (q : Bool) → is_complete g c ≡ q → (e : Fate) × ComesTo g y w c e
      go true q = (complete, complete-all g c q)
      go false q = second (lacks-one g c q) (leb (best_length w) y) refl

pub child-fates : ChildFates
child-fates g b up w c e room = leaves g b up w c room e

-- the counts once children came to these fates
record Raised (w : SearchState) (es : List Fate) (v : SearchState) : Type 0 where
  generated : v.tally.generated ≡ w.tally.generated + length es
  expanded : v.tally.expanded ≡ w.tally.expanded
  waiting : v.tally.waiting ≡ w.tally.waiting + count stored es
  stored : v.tally.stored ≡ w.tally.stored + count stored es
  duplicates : v.tally.duplicates ≡ w.tally.duplicates + count duplicate es
  pruned : v.tally.pruned ≡ w.tally.pruned + count pruned es
  complete : v.tally.complete ≡ w.tally.complete + count complete es

raised-none : (w : SearchState) → Raised w [] w
raised-none w = record { generated = omega arith; expanded = refl; stored = omega arith; waiting = omega arith; duplicates = omega arith; pruned = omega arith; complete = omega arith }

raised-one : (g : Graph) (y : ℕ) (w : SearchState) (c : Partial) (v : SearchState) (e : Fate) → Leaves g y w c v e → Raised w (e ∷ []) v
raised-one g y w c v complete l = rw l.tally (record { generated = refl; expanded = refl; stored = omega arith; waiting = omega arith; duplicates = omega arith; pruned = omega arith; complete = refl })
raised-one g y w c v pruned l = rw l.tally (record { generated = refl; expanded = refl; stored = omega arith; waiting = omega arith; duplicates = omega arith; pruned = refl; complete = omega arith })
raised-one g y w c v duplicate l = rw l.tally (record { generated = refl; expanded = refl; stored = omega arith; waiting = omega arith; duplicates = refl; pruned = omega arith; complete = omega arith })
raised-one g y w c v stored l = rw l.tally (record { generated = refl; expanded = refl; stored = refl; waiting = refl; duplicates = omega arith; pruned = omega arith; complete = omega arith })

raised-more : (w v u : SearchState) (e : Fate) (es : List Fate) → Raised w (e ∷ []) v → Raised v es u → Raised w (e ∷ es) u
raised-more w v u e es a r = record {
  generated = omega (arith, a.generated, r.generated);
  expanded = omega (arith, a.expanded, r.expanded);
  stored = omega (arith, a.stored, r.stored);
  waiting = omega (arith, a.waiting, r.waiting);
  duplicates = omega (arith, a.duplicates, r.duplicates);
  pruned = omega (arith, a.pruned, r.pruned);
  complete = omega (arith, a.complete, r.complete);
}

module _ (g : Graph) (b : Bound) (x : SearchNode) where
  -- the children by these choices, one after the other
  abbrev Came : SearchState → List (ℕ × ℕ) → Type 0
  Came w todo = (es : List Fate) × Visits g b x.bound w (map (child g x.partial) todo) es (fold (visited_by g b x) w todo)
      × (length es ≡ length todo) × Raised w es (fold (visited_by g b x) w todo)

  came : (todo : List (ℕ × ℕ)) (w : SearchState) → used w + length todo ≤ length w.nodes → Came w todo
  came [] w room = ([], none, refl, raised-none w)
  came (c ∷ todo) w room =
      let v : SearchState = visited_by g b x w c in
      let k = comes g b x.bound w (child g x.partial c) (omega (arith, room)) in
      let l = leaves g b x.bound w (child g x.partial c) (omega (arith, room)) k.0 k.1 in
      let r = came todo v (omega (arith, room, used-visit g b x.bound w (child g x.partial c), size-visit g b x.bound w (child g x.partial c))) in
      (k.0 ∷ r.0, more k.1 l r.1, omega (arith, r.2), raised-more w v (fold (visited_by g b x) v todo) k.0 r.0 (raised-one g _ w _ v k.0 l) r.3)

pub expansion-visits-all : ExpansionVisits
unfolding expanded
expansion-visits-all g b w i l room =
    let s = (node_at w.nodes i).partial in
    let n = length-map (choices g s) (child g s) in
    let t : Written w i (expanded_node (node_at w.nodes i)) (taken w i) = written w i (expanded_node (node_at w.nodes i)) (taken w i) l refl in
    let r = came g b (node_at w.nodes i) (choices g s) (taken w i) (omega (arith, room, n, t.size)) in
    record {
      start = taken w i;
      taken = record { tally = refl; node = t; list = refl };
      fates = r.0;
      each = r.1;
      as_many = r.2 ∙ sym n;
      tallied = record {
        generated = r.3.generated;
        expanded = omega (arith, r.3.expanded);
        stored = r.3.stored;
        waiting = r.3.waiting;
        duplicates = r.3.duplicates;
        pruned = r.3.pruned;
        complete = r.3.complete;
      };
    }
