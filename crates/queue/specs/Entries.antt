use Rattle.std.specs.Prelude.{ℕ, Bool, List, ◌++◌, codes, decimal}
use Rattle.bag.specs.Pairs.{below, AtMost}
use Rattle.queue.specs.declared.entry.Entry.{Entry}

-- the lesser bound comes first, among equals the greater node number
abbrev pub entry_before : Entry → Entry → Bool
entry_before x y = below x.bound y.node y.bound x.node

-- x has a lesser bound than y, or the same and no lesser node number
abbrev pub EntryLeads : Entry → Entry → Type 0
EntryLeads x y = AtMost x.bound y.node y.bound x.node

-- an entry as text, as `3/17`: its bound, then its node
abbrev pub entry_text : Entry → List ℕ
entry_text e = decimal e.bound ++ (codes "/" ++ decimal e.node)
