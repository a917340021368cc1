use Rattle.std.proofs.Common.{◌≡◌, ℕ, ◌<◌, ◌≤◌, ◌⊎◌, true, false, length, inl, inr, arith}
use native.Mathlib.Decide.{dec_lt}
use borrow.Author.Clash.{clash}
use Rattle.std.specs.List.{Contains}
use Rattle.model.specs.Graph.{Graph}
use Rattle.model.specs.Schedule.{Schedule, makespan}
use Rattle.model.specs.Partial.{Partial, Complete, Unfinished, whole}
use Rattle.model.specs.Reachable.{Reachable}
use Rattle.model.specs.Completion.{Completion}
use Rattle.model.specs.Children.{choices, child}
use Rattle.model.specs.Nodes.{SearchNode, node_at}
use Rattle.astar.specs.States.{SearchState, used, best_length}
use Rattle.astar.specs.Invariant.{InUse, partial_at, Visited, Grown}

-- What a step leaves of the nodes, and that it keeps what is known of them.

-- a node that holds a child that was just stored
abbrev pub FreshNode : Graph → SearchNode → Type 0
FreshNode g x =
    Reachable g x.partial
    × Unfinished g x.partial
    × ((t : ℕ) → g.tasks ≤ t → x.partial.placed t ≡ false)
    × ((p : Schedule) → Completion g x.partial p → x.bound ≤ makespan g p)
    × (x.waiting ≡ true)

-- a node that holds a schedule with its makespan
abbrev pub BestNode : Graph → SearchNode → Type 0
BestNode g x = Reachable g x.partial × Complete g x.partial × (x.bound ≡ makespan g (whole x.partial))

-- on the way from w to v used nodes keep their partial schedules and bounds, and the best length does not rise
pub record Onward (g : Graph) (w v : SearchState) : Type 0 where
  pub more : used w ≤ used v
  pub partial : (j : ℕ) → InUse w j → partial_at v j ≡ partial_at w j
  pub bound : (j : ℕ) → InUse w j → (node_at v.nodes j).bound ≡ (node_at w.nodes j).bound
  pub shorter : best_length v ≤ best_length w
  pub new : (j : ℕ) → used w ≤ j → j < used v → FreshNode g (node_at v.nodes j)
  pub best : BestNode g (node_at v.nodes 0)
  pub room : used v ≤ length v.nodes

-- what was known of a child is known later
pub visited-onward : (g : Graph) (w v : SearchState) (c : Partial) → Onward g w v → Visited g w c → Visited g v c
visited-onward g w v c O (inl d) = inl (d.0, omega (arith, O.shorter, d.1))
visited-onward g w v c O (inr (inl d)) = inr (inl (λ p C. omega (arith, O.shorter, d p C)))
visited-onward g w v c O (inr (inr d)) = inr (inr (d.0, (d.1.0, omega (arith, d.1.1, O.more)), rw (O.partial d.0 d.1) d.2))

module _ (g : Graph) (w v : SearchState) (Due Later : ℕ → ℕ × ℕ → Type 0) (O : Onward g w v) (G : Grown g Due w) where
  -- what holds of the used nodes and of the new ones holds of all
  each : (P : ℕ → Type 0) → ((j : ℕ) → InUse w j → P j) → ((j : ℕ) → used w ≤ j → j < used v → P j) → (j : ℕ) → InUse v j → P j
  each P f h j l = elim (dec_lt j (used w)) [ yes x ↦ f j (l.0, x) | no x ↦ h j (omega arith) l.1 ]

  pub grown-onward : ((j : ℕ) (x : ℕ × ℕ) → InUse w j → (node_at v.nodes j).waiting ≡ false → Later j x
      → (((node_at w.nodes j).waiting ≡ false) × Due j x) ⊎ Visited g v (child g (partial_at w j) x))
      → Grown g Later v
  grown-onward due = record {
    reachable = each (λ j. Reachable g (partial_at v j)) (λ j u. rw (O.partial j u) (G.reachable j u)) (λ j h l. (O.new j h l).0);
    unfinished = each (λ j. Unfinished g (partial_at v j)) (λ j u. rw (O.partial j u) (G.unfinished j u)) (λ j h l. (O.new j h l).1);
    tasks = λ j t u h. each (λ j. (partial_at v j).placed t ≡ false) (λ j u. rw (O.partial j u) (G.tasks j t u h)) (λ j k l. (O.new j k l).2 t h) j u;
    under = each (λ j. (p : Schedule) → Completion g (partial_at v j) p → (node_at v.nodes j).bound ≤ makespan g p)
        (λ j u. rw (O.partial j u, O.bound j u) (G.under j u)) (λ j h l. (O.new j h l).3);
    visited = λ j x u. each (λ j. (node_at v.nodes j).waiting ≡ false → Contains (choices g (partial_at v j)) x → Later j x → Visited g v (child g (partial_at v j) x))
        (λ j u. rw (O.partial j u) (λ q c l. told j x u c (due j x u q l)))
        (λ j h l q. clash (node_at v.nodes j).waiting ((O.new j h l).4) q) j u;
    root = let r = G.root in (r.0, (r.1.0, omega (arith, r.1.1, O.more)), rw (O.partial r.0 r.1) r.2);
    best = O.best;
    room = O.room;
  }
    where
      told : (j : ℕ) (x : ℕ × ℕ) → InUse w j → Contains (choices g (partial_at w j)) x
          → (((node_at w.nodes j).waiting ≡ false) × Due j x) ⊎ Visited g v (child g (partial_at w j) x)
          → Visited g v (child g (partial_at w j) x)
      told j x u c (inl d) = visited-onward g w v (child g (partial_at w j) x) O (G.visited j x u d.0 c d.1)
      told j x u c (inr d) = d
