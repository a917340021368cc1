use Rattle.std.proofs.Common.{ℕ, ◌≡◌, Some, rules, refl, ap, sym, subst, ◌∙◌}
use Rattle.std.specs.List.{Contains}
use Rattle.model.specs.Nodes.{node_at}
use Rattle.loader.specs.Meaning.{the_graph}
use Rattle.partial.specs.Meaning.{Appendable}
use Rattle.children.specs.Meaning.{the_choices}
use Rattle.nodes.specs.Meaning.{the_nodes}
use Rattle.bag.specs.Bag.{first}
use Rattle.astar.specs.States.{SearchState}
use Rattle.astar.proofs.Ending.{expansion-counts}
use Rattle.search.proofs.Taking.{taken_next}
use Rattle.search.proofs.Progress.{sensible-expanded}
use Rattle.search.proofs.search.Search.turn.Goals as goal

pub invariant_of-self : goal.invariant_of-self
invariant_of-self g c = record {
  counts = sensible-expanded _ _ _ _ _ (search rules) (search rules) (search rules) (search rules) _ (ap (λ (w : SearchState). w.tally) c.expand.ensures.is);
}

pub returns-clause-still : goal.returns-clause-still
returns-clause-still g c = ap (λ (w : SearchState). w.tally.expanded) c.expand.ensures.is ∙ expansion-counts _ _ _ _

pub expand-requires-clause-appendable : goal.expand-requires-clause-appendable
expand-requires-clause-appendable g c =
    let first_is : first (g.L.OpenList.bag c.next_entry.new.list) ≡ Some c.in_ok-entry.entry = search rules in
    subst (λ i. (t m : ℕ) → Contains (the_choices c.in_ok-choices.choices) (t, m) → Appendable (the_graph c.args.g.now) (node_at (the_nodes c.args.table.now) i).partial t m)
    (taken_next (g.L.OpenList.bag c.next_entry.new.list) (Some c.in_ok-entry.entry) c.in_ok-entry.entry (sym first_is) refl)
    c.in_ok-choices.ensures.appendable
