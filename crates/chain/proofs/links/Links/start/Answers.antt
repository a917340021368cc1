use Rattle.std.proofs.Common.{◌-◌, length, ap, arith}
use Rattle.chain.specs.declared.cell.Cell.{Cell}
use Rattle.chain.proofs.Walks.{strung-walk}
use Rattle.chain.proofs.links.Links.start.Goals as goal

pub invariant_of-result : goal.invariant_of-result
invariant_of-result c =
    let xs = c.string_up.new.cells in
    let met = strung-walk xs (length xs - 0) 0 (λ k p q. ap (λ (d : Cell). d.next) (c.string_up.ensures k (omega arith))) in
    record { linked = record { within = omega arith; once = λ x. (met x).0; inside = λ x p. (met x).2 (omega arith) } }
