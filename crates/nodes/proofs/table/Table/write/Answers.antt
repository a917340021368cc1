use Rattle.std.proofs.Common.{◌∙◌, map, set, ap, arith}
use Rattle.std.proofs.lemmas.List.{map-set}
use Rattle.nodes.specs.View.{the_node}
use Rattle.nodes.proofs.Linking.{linked_put}
use Rattle.nodes.proofs.table.Table.write.Goals as goal

pub invariant_of-self : goal.invariant_of-self
invariant_of-self c =
    let t = c.unlink_from.new.self in
    record { links = linked_put t.nodes.items t.heads.items t.next.items t.linked c.args.i c.args.node t.links (λ p h. absurd (grind (arith, c.unlink_from.ensures.linked))) }

pub returns-then-i-len : goal.returns-then-i-len
returns-then-i-len c = map-set the_node c.unlink_from.new.self.nodes.items c.args.i c.args.node ∙ ap (λ v. set (map the_node v.items) c.args.i (the_node c.args.node)) c.unlink_from.ensures.nodes
