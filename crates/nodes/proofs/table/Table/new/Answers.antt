use Rattle.std.proofs.Common.{◌≡◌, ℕ, map, max, length, replicate, Option, None, ◌∙◌, ap, arith}
use Rattle.std.proofs.lemmas.List.{length-map}
use Rattle.nodes.specs.View.{the_node}
use Rattle.nodes.proofs.Linking.{nothing_linked}
use Rattle.nodes.proofs.table.Table.new.Goals as goal

pub invariant_of-result : goal.invariant_of-result
invariant_of-result c =
    let ns = map the_node c.args.nodes.items in
    let long : length ns ≡ length c.args.nodes.items = length-map c.args.nodes.items the_node in
    let index = c.in-Ok.ensures in
    record {
      links = nothing_linked ns c.in-Ok.heads.items c.in-Ok.next.items (max (length ns) 1) (omega arith)
          (index.0 ∙ ap (λ (n : ℕ). replicate {A = Option ℕ} n None) (omega arith))
          (index.1 ∙ ap (λ (n : ℕ). replicate {A = Option ℕ} n None) (omega arith));
    }
