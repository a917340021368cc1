use Rattle.std.proofs.Common.{map, set, false, ap, sym, ◌∙◌, arith}
use Rattle.std.proofs.lemmas.List.{map-set}
use Rattle.model.specs.Nodes.{SearchNode}
use Rattle.nodes.specs.View.{the_node}
use Rattle.nodes.proofs.Reading.{node_read}
use Rattle.nodes.proofs.Linking.{linked_put}
use Rattle.nodes.proofs.table.Table.expand.Goals as goal

pub invariant_of-self : goal.invariant_of-self
invariant_of-self c =
    let t = c.args.self.now in
    let i = c.args.i in
    let is = node_read t.nodes.items i c.index_mut.result.now (omega arith) c.index_mut.ensures.value in
    record { links = linked_put t.nodes.items t.heads.items t.next.items t.linked i _ t.links (λ p h. ap (λ (x : SearchNode). x.partial) (sym is)) }

pub returns-then-i-len : goal.returns-then-i-len
returns-then-i-len c =
    let t = c.args.self.now in
    let i = c.args.i in
    let is = node_read t.nodes.items i c.index_mut.result.now (omega arith) c.index_mut.ensures.value in
    map-set the_node t.nodes.items i _ ∙ ap (λ (x : SearchNode). set (map the_node t.nodes.items) i (record x { waiting = false })) (sym is)
