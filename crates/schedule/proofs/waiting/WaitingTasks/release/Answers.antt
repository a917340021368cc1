use Rattle.std.proofs.Common.{◌≡◌, ◌<◌, ◌&&◌, true, List, length, get_or, eqb, sym, ap, ◌∙◌, subst, arith, rules}
use Rattle.loader.specs.declared.transfer.Transfer.{Transfer}
use Rattle.std.proofs.lemmas.Bool.{eq-eqb, and_from}
use Rattle.schedule.specs.Waiting.{released}
use Rattle.loader.specs.View.{blank}
use Rattle.loader.specs.Meaning.{the_graph}
use Rattle.loader.proofs.Laws.{the_lawful}
use Rattle.partial.specs.Meaning.{the_partial}
use Rattle.model.specs.Partial.{is_free}
use Rattle.queue.specs.ReadyBags.{ready_bag}
use Rattle.schedule.proofs.Turns.{released-none, released-more, released-room}
use Rattle.schedule.proofs.waiting.WaitingTasks.release.Goals as goal

pub loop-e-init : goal.loop-e-init
loop-e-init c = search (rules, released-none)

pub enlist-requires : goal.enlist-requires
enlist-requires c =
    let G = the_graph c.args.g.now in
    let s = the_partial c.args.q.now in
    let k = c.loop-e.e-index in
    let h : k < G.count = omega arith in
    let ts = c.transfers-e-items.result.now in
    let a : (get_or ts k blank).from ≡ c.args.t = search rules in
    let b : is_free G s (get_or ts k blank).to ≡ true = search rules in
    let e : (eqb (G.from k) c.args.t && is_free G s (G.to k)) ≡ true =
    subst (λ (xs : List Transfer). (eqb (get_or xs k blank).from c.args.t && is_free G s (get_or xs k blank).to) ≡ true) c.transfers-e-items.ensures.is
    (and_from _ _ (eq-eqb _ _ a) b) in
    let within : (get_or ts k blank).to < G.tasks =
    subst (λ (xs : List Transfer). (get_or xs k blank).to < G.tasks) (sym c.transfers-e-items.ensures.is) ((the_lawful c.args.g.now).numbers.ends k h).1 in
    record {
      task = search rules;
      room = omega (arith, ap length c.loop-e.invariant, released-room G s c.args.t k G.count 32 (ready_bag c.args.self.now.heap) h c.requires e);
    }

pub loop-e-preserved : goal.loop-e-preserved
loop-e-preserved c = search (rules, released-more)

pub returns : goal.returns
returns c =
    let G = the_graph c.args.g.now in
    let e : c.loop-e.e-index ≡ G.count = omega arith in
    c.loop-e.invariant ∙ ap (λ n. released G (the_partial c.args.q.now) c.args.t n (ready_bag c.args.self.now.heap)) e
