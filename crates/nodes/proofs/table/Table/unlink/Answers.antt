use Rattle.std.proofs.Common.{◌-◌, map, arith}
use Rattle.nodes.specs.View.{the_node}
use Rattle.nodes.proofs.Linking.{linked_less}
use Rattle.nodes.proofs.table.Table.unlink.Goals as goal

pub invariant_of-self : goal.invariant_of-self
invariant_of-self c =
    let t = c.args.self.now in
    let b = c.node_bucket-b in
    record {
      links = linked_less (map the_node t.nodes.items) t.heads.items t.next.items t.linked (t.linked - 1) b.result t.links (omega (arith, c.requires)) (omega (arith, c.requires)) b.ensures.within b.ensures.is c.index.result.now c.index.ensures;
    }
