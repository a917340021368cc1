use Rattle.std.proofs.Common.{map}
use Rattle.nodes.specs.View.{the_node}
use Rattle.nodes.proofs.Linking.{linked_more}
use Rattle.nodes.proofs.table.Table.link.Goals as goal

pub invariant_of-self : goal.invariant_of-self
invariant_of-self c =
    let t = c.args.self.now in
    let b = c.node_bucket-b in
    record {
      links = linked_more (map the_node t.nodes.items) t.heads.items t.next.items t.linked b.result t.links c.requires b.ensures.within b.ensures.is c.index.result.now c.index.ensures;
    }
