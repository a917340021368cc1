use Rattle.std.proofs.Common.{◌≡◌, false, List, Option}
use Rattle.bag.specs.Bag.{first, rest, InOrder}
use Rattle.bag.proofs.Pairs.{not-below}
use Rattle.queue.specs.Bags.{Shows, Takes}
use Rattle.queue.specs.Entries.{entry_before, EntryLeads}
use Rattle.queue.specs.EntryBags.{entries-ordered}
use Rattle.queue.specs.declared.entry.Entry.{Entry}
use Rattle.queue.proofs.Calls as calls

in_words : (x y : Entry) → entry_before y x ≡ false → EntryLeads x y
in_words x y h = not-below y.bound x.node x.bound y.node h

pub shows : (b : List Entry) (r : Option Entry) → r ≡ first b → InOrder entry_before b → Shows EntryLeads b r
shows = calls.shows entry_before entries-ordered EntryLeads in_words

pub takes : (b c : List Entry) (r : Option Entry) → r ≡ first b → c ≡ rest b → InOrder entry_before b → Takes EntryLeads b r c
takes = calls.takes entry_before entries-ordered EntryLeads in_words
