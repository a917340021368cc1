use Rattle.std.proofs.Common.{ap}
use Rattle.astar.specs.States.{SearchState}
use Rattle.search.proofs.Keeping.{kept_put}
use Rattle.search.proofs.expand.keep_or_drop.Goals as goal

pub returns-else-find-clause-kept : goal.returns-else-find-clause-kept
returns-else-find-clause-kept g c =
    let s = c.store.ensures in
    kept_put g.L.OpenList.bag g.L.OpenList.kept _ _ _ _ _ s.kept (ap (λ (w : SearchState). w.bag) s.is) (ap (λ (w : SearchState). w.tally.stored) s.is)
