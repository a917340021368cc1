use Rattle.std.proofs.Common.{ℕ, length, Option, sym, refl, ap, ◌∙◌, subst, arith}
use Rattle.std.specs.Option.{IsSome}
use Rattle.std.proofs.Math.Logic.{∥∥₁_map}
use Rattle.model.specs.Partial.{Partial, is_free}
use Rattle.model.specs.Reachable.{Reachable}
use Rattle.model.proofs.Rules.{child-reachable}
use Rattle.model.proofs.Starts.{lawful-dag}
use Rattle.loader.specs.Meaning.{the_graph}
use Rattle.loader.proofs.Laws.{the_lawful}
use Rattle.partial.specs.Meaning.{the_partial}
use Rattle.queue.specs.ReadyBags.{ready_bag}
use Rattle.schedule.specs.ListSchedule.{earliest, extend}
use Rattle.schedule.proofs.Choosing.{earliest-is}
use Rattle.schedule.proofs.Turns.{some-waits, taken, where-length}
use Rattle.schedule.proofs.Releasing.{waits-again}
use Rattle.schedule.proofs.list.Listing.turn.Goals as goal

-- some task waits
pub unwrap-t-requires : goal.unwrap-t-requires
unwrap-t-requires c = subst (λ (o : Option ℕ). IsSome o) (sym (c.take.ensures.is ∙ some-waits c.args.self.now c.requires)) refl

-- the one that is taken is free
pub extend-self-requires-clause-task : goal.extend-self-requires-clause-task
extend-self-requires-clause-task c =
    (taken c.args.self.now c.requires c.unwrap-t.result (ready_bag c.take.new.self.heap) (sym c.unwrap-t.ensures ∙ c.take.ensures.is) c.take.ensures.after).free

pub release-requires : goal.release-requires
release-requires c =
    let l = c.args.self.now in
    let G = the_graph l.graph.now in
    let L = the_lawful l.graph.now in
    let q = the_partial c.extend-self.result in
    let turn = taken l c.requires c.unwrap-t.result (ready_bag c.take.new.self.heap) (sym c.unwrap-t.ensures ∙ c.take.ensures.is) c.take.ensures.after in
    let again = waits-again G L (the_partial l.placed) q (ready_bag c.take.new.self.heap) c.unwrap-t.result turn c.extend-self.ensures in
    omega (arith, ap length again, where-length G (is_free G q) G.tasks, L.numbers.sizes.1)

pub invariant_of-self : goal.invariant_of-self
invariant_of-self c =
    let l = c.args.self.now in
    let G = the_graph l.graph.now in
    let L = the_lawful l.graph.now in
    let s = the_partial l.placed in
    let q = the_partial c.extend-self.result in
    let t = c.unwrap-t.result in
    let turn = taken l c.requires t (ready_bag c.take.new.self.heap) (sym c.unwrap-t.ensures ∙ c.take.ensures.is) c.take.ensures.after in
    record {
      reachable = subst (λ (x : Partial). ∥ Reachable G x ∥₁) (sym c.extend-self.ensures)
          (∥∥₁_map l.reachable (λ R. child-reachable G (lawful-dag L) s t (earliest G s t G.machines) R turn.free (earliest-is G s t L.numbers.sizes.2).low));
      free = c.release.ensures ∙ waits-again G L s q (ready_bag c.take.new.self.heap) t turn c.extend-self.ensures;
    }

pub returns-clause-placed : goal.returns-clause-placed
returns-clause-placed c =
    let l = c.args.self.now in
    let turn = taken l c.requires c.unwrap-t.result (ready_bag c.take.new.self.heap) (sym c.unwrap-t.ensures ∙ c.take.ensures.is) c.take.ensures.after in
    c.extend-self.ensures ∙ ap (extend (the_graph l.graph.now) (the_partial l.placed)) turn.next
