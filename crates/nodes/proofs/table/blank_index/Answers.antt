use Rattle.std.proofs.Common.{ℕ, replicate, Option, None, ◌∙◌, ap, arith, rules}
use Rattle.nodes.proofs.table.blank_index.Goals as goal

pub returns : goal.returns
returns c =
    let heads = c.in_ok-heads.ensures.items_if_clones_equal (λ y h. search rules) in
    let next = c.in_ok-next.ensures.items_if_clones_equal (λ y h. search rules) in
    (heads ∙ ap (λ (n : ℕ). replicate {A = Option ℕ} n None) (omega arith), next)
