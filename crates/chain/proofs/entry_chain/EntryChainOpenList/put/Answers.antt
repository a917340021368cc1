use Rattle.std.proofs.Common.{ℕ, nat_lt, length, sym, ap, ◌∙◌}
use Rattle.bag.proofs.Bags.{put-in-order}
use Rattle.queue.specs.Entries.{entry_before}
use Rattle.queue.specs.EntryBags.{entries-ordered}
use Rattle.queue.proofs.Calls.{adds}
use Rattle.chain.specs.Chains.{cells_of, chain_of}
use Rattle.chain.specs.ChainBags.{length-chain}
use Rattle.chain.proofs.Unchanged.{same_chain}
use Rattle.chain.proofs.entry_chain.EntryChainOpenList.put.Goals as goal

pub invariant_of-self : goal.invariant_of-self
invariant_of-self c =
    let s = c.args.self.now in
    record { order = put-in-order entry_before entries-ordered c.args.e (chain_of s.links) (chain_of c.put.new.self) c.put.result c.put.ensures.chain s.order }

pub returns-clause-is : goal.returns-clause-is
returns-clause-is c =
    let l = c.args.self.now.links in
    c.put.ensures.is ∙ ap (λ (n : ℕ). nat_lt n (length (cells_of l))) (sym (length-chain (cells_of l) l.head l.count))

pub returns-clause-adds : goal.returns-clause-adds
returns-clause-adds c = adds entry_before c.args.e (chain_of c.args.self.now.links) (chain_of c.put.new.self) c.put.result c.put.ensures.chain

pub returns-clause-refused : goal.returns-clause-refused
returns-clause-refused c = λ e. same_chain _ c.args.self.now (c.put.ensures.refused e)
