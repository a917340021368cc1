use Rattle.chain.specs.Chains.{chain_of}
use Rattle.queue.proofs.EntryCalls.{shows}
use Rattle.chain.proofs.entry_chain.EntryChainOpenList.look.Goals as goal

pub returns-clause-shows : goal.returns-clause-shows
returns-clause-shows c = let s = c.args.self.now in shows (chain_of s.links) c.look.result c.look.ensures s.order
