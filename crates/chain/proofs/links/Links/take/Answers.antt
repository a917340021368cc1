use Rattle.std.proofs.Common.{refl, ap, arith, get_or-set_same}
use Rattle.chain.specs.declared.cell.Cell.{Cell}
use Rattle.chain.specs.Cells.{blank}
use Rattle.chain.proofs.Inside.{held, head_inside, entry_kept}
use Rattle.chain.proofs.Linking.{take-leaves}
use Rattle.chain.proofs.links.Links.take.Goals as goal

pub invariant_of-self : goal.invariant_of-self
invariant_of-self c =
    let l = c.args.self.now in
    record { linked = (take-leaves l.cells.now l.head l.free l.count l.linked (held l c.in_ok-entry.entry c.in_ok-entry.ensures)).0 }

pub returns-clause-chain : goal.returns-clause-chain
returns-clause-chain c =
    let l = c.args.self.now in
    (take-leaves l.cells.now l.head l.free l.count l.linked (held l c.in_ok-entry.entry c.in_ok-entry.ensures)).1

pub returns-clause-kept : goal.returns-clause-kept
returns-clause-kept c =
    let l = c.args.self.now in
    let some = held l c.in_ok-entry.entry c.in_ok-entry.ensures in
    record {
      entries = λ k h. entry_kept l.cells.now l.head l.free k (head_inside l some);
      used = λ h. absurd (omega (arith, h));
      given_up = λ h. (refl, ap (λ (x : Cell). x.next) (get_or-set_same l.cells.now l.head _ blank (head_inside l some)));
      lender = refl;
    }
