use Rattle.chain.specs.Chains.{chain_of}
use Rattle.queue.proofs.EntryCalls.{takes}
use Rattle.chain.proofs.Unchanged.{same_chain}
use Rattle.chain.proofs.entry_chain.EntryChainOpenList.take.Goals as goal

pub returns-clause-takes : goal.returns-clause-takes
returns-clause-takes c =
    let s = c.args.self.now in
    takes (chain_of s.links) (chain_of c.take.new.self) c.take.result c.take.ensures.is c.take.ensures.chain s.order

pub returns-clause-empty : goal.returns-clause-empty
returns-clause-empty c = λ e. same_chain _ c.args.self.now (c.take.ensures.empty e)
