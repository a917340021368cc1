use Rattle.std.proofs.Common.{sym}
use Rattle.chain.specs.ChainBags.{length-chain}
use Rattle.chain.proofs.entry_chain.EntryChainOpenList.count.Goals as goal

pub returns-clause-is : goal.returns-clause-is
returns-clause-is c = let l = c.args.self.now.links in sym (length-chain l.cells.now l.head l.count)
