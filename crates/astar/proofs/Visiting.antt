use Rattle.std.proofs.Common.{◌≡◌, ℕ, zero, suc, ◌<◌, ◌≤◌, ◌≢◌, max, Bool, true, false, ◌&&◌, List, length, set, sym, refl, ap, ◌∙◌, inl, inr, subst, arith, length-set, get_or-set_same, get_or-set_other}
use borrow.Author.Clash.{clash}
use Rattle.std.proofs.Math.Bool.{and-true}
use Rattle.model.specs.Graph.{Graph}
use Rattle.model.specs.Schedule.{Schedule, makespan}
use Rattle.model.specs.Partial.{Partial, Complete, Unfinished, whole}
use Rattle.model.specs.Reachable.{Reachable}
use Rattle.model.specs.Completion.{Completion}
use Rattle.model.specs.Bounds.{Bound}
use Rattle.model.specs.Nodes.{SearchNode, no_node, node_at, is_duplicate}
use Rattle.model.specs.Soundness.{is_complete}
use Rattle.model.specs.Range.{every}
use Rattle.model.proofs.Range.{every-all}
use Rattle.astar.specs.States.{SearchState, used, best_length, best_node, waiting_node}
use Rattle.astar.specs.Expansion.{visited, pruned, repeated, stored}
use Rattle.astar.specs.Invariant.{InUse, Visited, Grown}
use Rattle.astar.proofs.Duplicates.{duplicate-refl, any-held}
use Rattle.astar.proofs.Visits.{bettered, passed, visit-cases}
use Rattle.astar.proofs.Growth.{FreshNode, BestNode, Onward, visited-onward}

-- A step that visits a child: what it leaves of the nodes, and what is then known of the child.

pub record Step (g : Graph) (w v : SearchState) (c : Partial) : Type 0 where
  pub onward : Onward g w v
  pub still : (j : ℕ) → InUse w j → (node_at v.nodes j).waiting ≡ (node_at w.nodes j).waiting
  pub told : Visited g v c

pub complete-all : (g : Graph) (c : Partial) → is_complete g c ≡ true → Complete g c
unfolding is_complete
complete-all g c e = every-all g.tasks c.placed e

some-missing : (n : ℕ) (f : ℕ → Bool) → every n f ≡ false → (t : ℕ) × (t < n) × (f t ≡ false)
some-missing zero f e = clash true refl e
some-missing (suc n) f e = go (f n) refl (some-missing n f)
  where
    go : (b : Bool) → f n ≡ b → (every n f ≡ false → (t : ℕ) × (t < n) × (f t ≡ false)) → (t : ℕ) × (t < suc n) × (f t ≡ false)
    go false q ih = (n, omega arith, q)
    go true q ih =
        let x = ih (sym (and-true (every n f)) ∙ ap (λ v. every n f && v) (sym q) ∙ e) in
        (x.0, omega (arith, x.1), x.2)

pub lacks-one : (g : Graph) (c : Partial) → is_complete g c ≡ false → Unfinished g c
unfolding is_complete
lacks-one g c e = some-missing g.tasks c.placed e

module _ (g : Graph) (Due : ℕ → ℕ × ℕ → Type 0) (w : SearchState) (G : Grown g Due w) where
  first : 0 < length w.nodes
  first = omega (arith, G.room)

  -- the counts alone change
  counted : (v : SearchState) → used v ≡ used w → v.nodes ≡ w.nodes → Onward g w v
  counted v e n = record {
    more = omega (arith, e);
    partial = λ j u. ap (λ ns. (node_at ns j).partial) n;
    bound = λ j u. ap (λ ns. (node_at ns j).bound) n;
    shorter = omega (arith, ap (λ ns. (node_at ns 0).bound) n);
    new = λ j h l. absurd (omega (arith, e));
    best = subst (λ ns. BestNode g (node_at ns 0)) (sym n) G.best;
    room = omega (arith, e, ap (λ (ns : List SearchNode). length ns) n, G.room);
  }

  counted-step : (v : SearchState) (c : Partial) → used v ≡ used w → v.nodes ≡ w.nodes → Visited g w c → Step g w v c
  counted-step v c e n d = record {
    onward = counted v e n;
    still = λ j u. ap (λ ns. (node_at ns j).waiting) n;
    told = visited-onward g w v c (counted v e n) d;
  }

  module _ (c : Partial) (R : Reachable g c) (none : (t : ℕ) → g.tasks ≤ t → c.placed t ≡ false) where
    -- node 0 is written
    better-step : Complete g c → makespan g (whole c) < best_length w → Step g w (bettered g w c) c
    better-step full short = record {
      onward = record {
        more = omega arith;
        partial = λ j u. ap (λ (x : SearchNode). x.partial) (other j u.0);
        bound = λ j u. ap (λ (x : SearchNode). x.bound) (other j u.0);
        shorter = omega (arith, ap (λ (x : SearchNode). x.bound) same);
        new = λ j h l. absurd (omega arith);
        best = subst (BestNode g) (sym same) (R, full, refl);
        room = omega (arith, length-set w.nodes 0 (best_node g c), G.room);
      };
      still = λ j u. ap (λ (x : SearchNode). x.waiting) (other j u.0);
      told = inl (full, omega (arith, ap (λ (x : SearchNode). x.bound) same));
    }
      where
        same : node_at (set w.nodes 0 (best_node g c)) 0 ≡ best_node g c
        same = get_or-set_same w.nodes 0 (best_node g c) no_node first

        other : (j : ℕ) → 0 < j → node_at (set w.nodes 0 (best_node g c)) j ≡ node_at w.nodes j
        other j h = let ne : j ≢ 0 = omega arith in get_or-set_other w.nodes 0 j (best_node g c) no_node ne

    -- a node more is used
    stored-step : (y : ℕ) → Unfinished g c → ((p : Schedule) → Completion g c p → y ≤ makespan g p) → used w < length w.nodes → Step g w (stored w c y) c
    stored-step y lacks under room = record {
      onward = record {
        more = omega arith;
        partial = λ j u. ap (λ (x : SearchNode). x.partial) (other j u.1);
        bound = λ j u. ap (λ (x : SearchNode). x.bound) (other j u.1);
        shorter = omega (arith, ap (λ (x : SearchNode). x.bound) (other 0 (omega arith)));
        new = λ j h l. let e : j ≡ used w = omega arith in
            subst (λ i. FreshNode g (node_at (set w.nodes (used w) (waiting_node c y)) i)) (sym e) (subst (FreshNode g) (sym same) (R, lacks, none, under, refl));
        best = subst (BestNode g) (sym (other 0 (omega arith))) G.best;
        room = omega (arith, length-set w.nodes (used w) (waiting_node c y));
      };
      still = λ j u. ap (λ (x : SearchNode). x.waiting) (other j u.1);
      told = inr (inr (used w, (omega arith, omega arith), subst (λ (x : SearchNode). is_duplicate c x.partial ≡ true) (sym same) (duplicate-refl c)));
    }
      where
        same : node_at (set w.nodes (used w) (waiting_node c y)) (used w) ≡ waiting_node c y
        same = get_or-set_same w.nodes (used w) (waiting_node c y) no_node room

        other : (j : ℕ) → j < used w → node_at (set w.nodes (used w) (waiting_node c y)) j ≡ node_at w.nodes j
        other j h = let ne : j ≢ used w = omega arith in get_or-set_other w.nodes (used w) j (waiting_node c y) no_node ne

    -- a child whose completions are at least as long as its bound says
    pub visit-step : (b : Bound) (up : ℕ) → ((p : Schedule) → Completion g c p → max up (b g c) ≤ makespan g p) → used w < length w.nodes → Step g w (visited g b up w c) c
    visit-step b up under room = visit-cases g b up w c (λ v. Step g w v c)
        (λ e l. better-step (complete-all g c e) l)
        (λ e l. counted-step (passed w) c refl refl (inl (complete-all g c e, l)))
        (λ l. counted-step (pruned w) c refl refl (inr (inl (λ p C. omega (arith, l, under p C)))))
        (λ h. let x = any-held w.nodes (used w) c h in counted-step (repeated w) c refl refl (inr (inr (x.0, (x.1, x.2), x.4))))
        (λ e. stored-step (max up (b g c)) (lacks-one g c e) under room)
