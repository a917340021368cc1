use Rattle.std.proofs.Common.{sym, refl, subst}
use Rattle.std.proofs.lemmas.Grind.{merely}
use Rattle.model.specs.Partial.{Partial}
use Rattle.model.specs.Reachable.{Reachable}
use Rattle.model.specs.Reachable.Reachable.{none}
use Rattle.loader.specs.Meaning.{the_graph}
use Rattle.schedule.proofs.list.Listing.start.Goals as goal

pub invariant_of-result : goal.invariant_of-result
invariant_of-result c = record {
  reachable = subst (λ (s : Partial). ∥ Reachable (the_graph c.args.graph.now) s ∥₁) (sym c.empty-placed.ensures) (merely (none (λ t l. refl)));
  free = c.enlist_free.ensures;
}
