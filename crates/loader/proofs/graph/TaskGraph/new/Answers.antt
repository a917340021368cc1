use Rattle.std.proofs.Common.{◌≡◌, ℕ, zero, suc, ◌<◌, refl, arith}
use Rattle.model.specs.Graph.{Graph, Chain, level}
use Rattle.model.specs.Graph.Chain.{link, join}
use Rattle.loader.proofs.graph.TaskGraph.new.Goals as goal

no-chain : (g : Graph) → g.count ≡ 0 → {a b : ℕ} → Chain g a b → ⊥
no-chain g e (link k h) = omega arith
no-chain g e (join x y) = no-chain g e x

only : (P : ℕ → Type 0) → P 0 → (t : ℕ) → t < 1 → P t
only P p zero h = p
only P p (suc t) h = absurd (omega arith)

pub invariant_of-result : goal.invariant_of-result
unfolding level
invariant_of-result c = record {
  lawful = record {
    numbers = record {
      sizes = omega arith;
      works = only _ (omega arith);
      costs = λ k h. absurd (omega arith);
      ends = λ k h. absurd (omega arith);
      apart = λ k h e. absurd (omega arith);
      pairs = λ i j s. omega (arith, s.1);
    };
    acyclic = λ t x. no-chain _ refl x;
  };
  bottom = only _ refl;
}
