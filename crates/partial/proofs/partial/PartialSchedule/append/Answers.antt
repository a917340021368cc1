use Rattle.std.proofs.Common.{◌≡◌, refl, sym, ◌∙◌, subst, arith, rules}
use Rattle.model.specs.Partial.{Obeys}
use Rattle.model.proofs.Rules.{append-obeys}
use Rattle.loader.specs.Meaning.{the_graph}
use Rattle.partial.specs.Meaning.{the_partial, Appendable}
use Rattle.partial.proofs.Deciding.{not_open, opened, reachable_appendable}
use Rattle.partial.proofs.Placing.{appended}
use Rattle.partial.proofs.partial.PartialSchedule.append.Goals as goal

pub returns-then-not-is_open-clause-is : goal.returns-then-not-is_open-clause-is
returns-then-not-is_open-clause-is c = not_open (the_graph c.args.g.now) (the_partial c.args.self.now) c.args.t c.args.m c.is_open.result c.is_open.ensures (search rules)

pub returns-then-not-is_open-clause-some : goal.returns-then-not-is_open-clause-some
returns-then-not-is_open-clause-some c R F l =
    absurd (not_open (the_graph c.args.g.now) (the_partial c.args.self.now) c.args.t c.args.m c.is_open.result c.is_open.ensures (search rules)
    (reachable_appendable c.args.g.now _ c.args.t c.args.m R F l))

pub returns-in_err-start-clause-some : goal.returns-in_err-start-clause-some
returns-in_err-start-clause-some c R F l =
    let no : Appendable (the_graph c.args.g.now) (the_partial c.args.self.now) c.args.t c.args.m → ⊥ = search rules in
    absurd (no (reachable_appendable c.args.g.now _ c.args.t c.args.m R F l))

pub returns : goal.returns
returns c =
    let G = the_graph c.args.g.now in
    let s = the_partial c.args.self.now in
    let t = c.args.t in
    let m = c.args.m in
    let o = opened G s t m c.is_open.result c.is_open.ensures (search rules) in
    let v : c.in_ok-start.start ≡ c.start_on.result = search rules in
    let e = appended G c.args.self.now.places t (record { machine = m; start = c.in_ok-start.start }) (omega (arith, o.0.0)) (v ∙ c.start_on.ensures.is) in
    record {
      is = ((o.0, o.1, omega (arith, v, c.start_on.ensures.is)), e);
      some = λ R F l. refl;
      keeps_rules = λ O. subst (Obeys G) (sym e) (append-obeys G s t m O o.0 o.1);
    }
