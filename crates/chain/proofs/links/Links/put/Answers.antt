use Rattle.std.proofs.Common.{◌<◌, length, length-set, sym, subst, arith, rules}
use Rattle.chain.specs.declared.cell.Cell.{Cell}
use Rattle.chain.proofs.Putting.{Put, previous-inside, put-first, put-behind}
use Rattle.chain.proofs.links.Links.put.Goals as goal
use Rattle.chain.proofs.links.Links.put.Goals.{in-None, in-Some}

pub offset_bounds-cells-number : goal.offset_bounds-cells-number
offset_bounds-cells-number c =
    let p = c.place-previous in
    let inside : c.in-Some.number < length c.args.self.now.cells.now = previous-inside c.args.self.now c.args.e p.result p.ensures c.in-Some.number c.in-Some.is in
    search rules

pub bounds-cells-number : goal.bounds-cells-number
bounds-cells-number c =
    let p = c.place-previous in
    let inside : c.in-Some.number < length c.args.self.now.cells.now = previous-inside c.args.self.now c.args.e p.result p.ensures c.in-Some.number c.in-Some.is in
    omega (arith, length-set {A = Cell})

pub invariant_of-self : goal.invariant_of-self
invariant_of-self c =
    let l = c.args.self.now in
    let e = c.args.e in
    let p = c.place-previous in
    let room : l.count < length l.cells.now = omega (arith, l.linked.within, c.if-self.false) in
    record {
      linked = elim c.match-previous.branch [
        | in-None w ↦ (subst (λ s. Put l e s.1.0.now s.1.1.0) (sym w.self-is) (put-first l e p.result p.ensures room w.in-None.is)).0
        | in-Some w ↦ (subst (λ s. Put l e s.1.0.now s.1.1.0) (sym w.self-is) (put-behind l e p.result p.ensures w.in-Some.number room w.in-Some.is)).0
      ];
    }

pub returns-clause-chain : goal.returns-clause-chain
returns-clause-chain c =
    let l = c.args.self.now in
    let e = c.args.e in
    let p = c.place-previous in
    let room : l.count < length l.cells.now = omega (arith, l.linked.within, c.if-self.false) in
    elim c.match-previous.branch [
      | in-None w ↦ (subst (λ s. Put l e s.1.0.now s.1.1.0) (sym w.self-is) (put-first l e p.result p.ensures room w.in-None.is)).1
      | in-Some w ↦ (subst (λ s. Put l e s.1.0.now s.1.1.0) (sym w.self-is) (put-behind l e p.result p.ensures w.in-Some.number room w.in-Some.is)).1
    ]
