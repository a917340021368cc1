use Rattle.search.proofs.Calls.{promised-to, of-ok, open-run, open-fills}
use Rattle.nodes.specs.Meaning.{the_nodes}
use Rattle.search.specs.Refusals.{search_refusal}
use Rattle.search.specs.Refused.{OpenRefused}
use Rattle.search.proofs.Refusing.{open-tells, refuses-or}
use Rattle.search.proofs.search.Search.open.Goals as goal

pub returns-clause-promise : goal.returns-clause-promise
returns-clause-promise g c = promised-to c.args.g.now

pub returns-clause-run : goal.returns-clause-run
returns-clause-run g c = of-ok _ _ _ c.begin.result c.begin.ensures.is (λ s t. open-run _ _ _ _ _ _ _ _ t.0 t.1 t.2 c.begin.ensures.limit)

pub returns-clause-refused : goal.returns-clause-refused
returns-clause-refused g c =
    let t = open-tells (the_nodes c.args.table.now) (g.L.OpenList.bag c.args.list.now) (g.L.OpenList.limit c.args.list.now) in
    refuses-or (OpenRefused (the_nodes c.args.table.now) (g.L.OpenList.bag c.args.list.now) (g.L.OpenList.limit c.args.list.now)) search_refusal
    _ _ (λ s q. q.0) (λ e q. q.0) c.begin.result c.begin.ensures.is t

pub returns-clause-fills : goal.returns-clause-fills
returns-clause-fills g c = of-ok _ _ _ c.begin.result c.begin.ensures.is (λ s t. open-fills _ _ _ _ _ _ t.0 t.2)
