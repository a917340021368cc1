use Rattle.std.proofs.Common.{◌≡◌, ℕ, zero, suc, ◌≤◌, ◌≢◌, max, List, [], ◌∷◌, length, Some, None, Option, set, refl, ap, ◌∙◌, arith, get_or-set_other}
use Rattle.model.specs.Graph.{Graph}
use Rattle.model.specs.Partial.{Partial}
use Rattle.model.specs.Bounds.{Bound}
use Rattle.model.specs.Nodes.{SearchNode, no_node, node_at}
use Rattle.astar.specs.declared.sizes.Sizes.{Sizes}
use Rattle.astar.specs.declared.outcome.Outcome.{Outcome}
use Rattle.astar.specs.States.{SearchState, used, best_node, waiting_node, expanded_node}
use Rattle.astar.specs.Opening.{opened}
use Rattle.astar.specs.Expansion.{visited, taken, expanded}
use Rattle.astar.specs.Advance.{turn_word, ended_or, next_node, advanced}
use Rattle.astar.specs.Invariant.{Rooted}
use Rattle.astar.proofs.Visits.{visit-cases, expansion-visits}
use Rattle.astar.proofs.Starting.{opening-fills}

-- Node 1 keeps the empty partial schedule and its bound.

-- where another node is written
elsewhere : (g : Graph) (b : Bound) (w v : SearchState) (i : ℕ) (x : SearchNode) → 1 ≢ i → v.nodes ≡ set w.nodes i x → Rooted g b w → Rooted g b v
elsewhere g b w v i x ne e R =
    let same : node_at v.nodes 1 ≡ node_at w.nodes 1 = ap (λ ns. node_at ns 1) e ∙ get_or-set_other w.nodes i 1 x no_node ne in
    record { partial = ap (λ (n : SearchNode). n.partial) same ∙ R.partial; bound = ap (λ (n : SearchNode). n.bound) same ∙ R.bound }

-- where a node is written that agrees in something with the one before it
agrees : {A : Type 0} (f : SearchNode → A) (ns : List SearchNode) (i j : ℕ) (x : SearchNode) → f x ≡ f (node_at ns i) → f (node_at (set ns i x) j) ≡ f (node_at ns j)
agrees f [] i j x h = refl
agrees f (y ∷ ns) zero zero x h = h
agrees f (y ∷ ns) zero (suc j) x h = refl
agrees f (y ∷ ns) (suc i) zero x h = refl
agrees f (y ∷ ns) (suc i) (suc j) x h = agrees f ns i j x h

module _ (g : Graph) (b : Bound) where
  rooted-visit : (up : ℕ) (w : SearchState) (c : Partial) → Rooted g b w → Rooted g b (visited g b up w c)
  rooted-visit up w c R = visit-cases g b up w c (Rooted g b)
      (λ e l. elsewhere g b w _ 0 (best_node g c) (omega arith) refl R)
      (λ e l. record { partial = R.partial; bound = R.bound })
      (λ l. record { partial = R.partial; bound = R.bound })
      (λ h. record { partial = R.partial; bound = R.bound })
      (λ e. elsewhere g b w _ (used w) (waiting_node c (max up (b g c))) (omega arith) refl R)

  rooted-taken : (w : SearchState) (i : ℕ) → Rooted g b w → Rooted g b (taken w i)
  rooted-taken w i R = let x : SearchNode = expanded_node (node_at w.nodes i) in record {
    partial = agrees (λ (n : SearchNode). n.partial) w.nodes i 1 x refl ∙ R.partial;
    bound = agrees (λ (n : SearchNode). n.bound) w.nodes i 1 x refl ∙ R.bound;
  }

  rooted-expansion : (w : SearchState) (i : ℕ) → Rooted g b w → Rooted g b (expanded g b w i)
  rooted-expansion w i R = expansion-visits g b w i (Rooted g b) (λ v c r. rooted-visit (node_at w.nodes i).bound v c r) (rooted-taken w i R)

  pub rooted-advanced : (z : Sizes) (limit k : ℕ) (w : SearchState) → Rooted g b w → Rooted g b (advanced g b z limit k w).0
  unfolding advanced
  rooted-advanced z limit zero w R = R
  rooted-advanced z limit (suc k) w R = go (turn_word g z w limit) (rooted-advanced z limit k (expanded g b w (next_node w.bag)) (rooted-expansion w (next_node w.bag) R))
    where
      v : SearchState × Outcome
      v = advanced g b z limit k (expanded g b w (next_node w.bag))

      go : (o : Option Outcome) → Rooted g b v.0 → Rooted g b (ended_or o w v).0
      go (Some o) r = R
      go None r = r

  pub rooted-opened : (s : Partial) (ns : List SearchNode) → 2 ≤ length ns → Rooted g b (opened g b s ns)
  rooted-opened s ns two =
      let o = opening-fills g b s ns two in
      record { partial = ap (λ (n : SearchNode). n.partial) o.root; bound = ap (λ (n : SearchNode). n.bound) o.root }
