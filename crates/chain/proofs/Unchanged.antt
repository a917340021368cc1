use Rattle.std.proofs.Common.{◌≡◌}
use std.HLevel.{prop→path_p}
use Rattle.bag.specs.Bag.{InOrder}
use Rattle.bag.proofs.Bags.{in-order-prop}
use Rattle.queue.specs.Entries.{entry_before}
use Rattle.chain.specs.Chains.{chain_of}
use Rattle.chain.specs.declared.entry_chain.EntryChain.{EntryChain}

-- a fact in a type has one proof, so two chains are equal where their data are
pub same_chain : (a b : EntryChain) → a.links ≡ b.links → a ≡ b
same_chain a b e = λ t. record {
  links = e t;
  order = prop→path_p (λ i. InOrder entry_before (chain_of (e i))) (in-order-prop entry_before (chain_of b.links)) a.order b.order t;
}
