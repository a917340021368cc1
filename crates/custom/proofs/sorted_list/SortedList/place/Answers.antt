use Rattle.std.proofs.Common.{◌≡◌, List, ◌∷◌, ◌++◌, take, drop, sym, subst, rules}
use Rattle.std.proofs.lemmas.List.Sorted.{IsPartitionPoint-from_clause}
use Rattle.bag.specs.Bag.{insert, InOrder}
use Rattle.queue.specs.declared.entry.Entry.{Entry}
use Rattle.queue.specs.Entries.{entry_before}
use Rattle.queue.specs.EntryBags.{entries-ordered}
use Rattle.custom.proofs.Placing.{placed, parted}
use Rattle.custom.proofs.sorted_list.SortedList.place.Goals as goal

pub returns-clause-is : goal.returns-clause-is
returns-clause-is c =
    let e = c.args.e.now in
    let xs = c.as_slice.result.now in
    let i = c.partition_point.result in
    let order = subst (InOrder entry_before) (sym c.as_slice.ensures.value) c.args.self.now.order in
    let point = IsPartitionPoint-from_clause (λ x. entry_before x e) xs i c.partition_point.ensures.partitioned (parted entry_before e entries-ordered xs order) (λ a r q k. search rules) in
    subst (λ (l : List Entry). take i l ++ e ∷ drop i l ≡ insert entry_before e l) c.as_slice.ensures.value (placed entry_before e xs i c.partition_point.ensures.bound point.0 point.1)
