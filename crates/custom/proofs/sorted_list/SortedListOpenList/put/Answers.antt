use Rattle.std.proofs.Common.{is_ok, rules}
use Rattle.bag.proofs.Bags.{put-in-order}
use Rattle.queue.specs.Entries.{entry_before}
use Rattle.queue.specs.EntryBags.{entries-ordered}
use Rattle.queue.proofs.Calls.{adds}
use Rattle.custom.proofs.sorted_list.SortedListOpenList.put.Goals as goal

pub invariant_of-self : goal.invariant_of-self
invariant_of-self c =
    let s = c.args.self.now in
    record { order = put-in-order entry_before entries-ordered c.args.e s.entries.items c.insert.new.self.items (is_ok c.insert.result) (search rules) s.order }

pub returns-clause-adds : goal.returns-clause-adds
returns-clause-adds c = adds entry_before c.args.e c.args.self.now.entries.items c.insert.new.self.items c.is_ok.result (search rules)
