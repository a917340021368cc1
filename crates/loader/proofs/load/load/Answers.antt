use Rattle.std.proofs.Common.{refl}
use Rattle.std.proofs.lemmas.Result.{err_from_is_err_and}
use Rattle.loader.proofs.Parsing.{parse-told, parse-refuses}
use Rattle.loader.proofs.Refusing.{parse-refused}
use Rattle.loader.proofs.Converse.{refused-only, refused-never}
use Rattle.loader.proofs.load.load.Goals as goal

pub returns-in_err-graph : goal.returns-in_err-graph
returns-in_err-graph c =
    let p = err_from_is_err_and c.from_residual.result c.from_residual.ensures.1 in
    let k = c.in_err-graph.ensures in
    let bs = c.args.bytes.now in
    rw (p.1, p.2) (record { is = (k, refl); means = tt; exactly = parse-refuses bs _ k; refused = parse-refused bs _ k; only = refused-only bs _ k })

pub returns-clause-exactly : goal.returns-clause-exactly
returns-clause-exactly c = parse-told c.args.bytes.now _ c.in_ok-graph.ensures

pub returns-clause-only : goal.returns-clause-only
returns-clause-only c = refused-never c.args.bytes.now _ c.in_ok-graph.ensures
