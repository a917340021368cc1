use Rattle.std.proofs.Common.{◌≡◌, ℕ, length, ap, ◌∙◌, arith}
use Rattle.model.specs.Cycles.{reach}
use Rattle.loader.specs.View.{graph_of, leads}
use Rattle.loader.specs.Tables.{table_of}
use Rattle.loader.proofs.Tables.{round}
use Rattle.loader.proofs.cycles.closed.Goals as goal

pub loop-mid-init : goal.loop-mid-init
unfolding leads
loop-mid-init c p ws = c.direct-table.ensures

pub loop-mid-preserved : goal.loop-mid-preserved
loop-mid-preserved c p ws =
    let ts = c.args.transfers.now in
    let lt = c.loop-mid-test.true in
    c.through-table.ensures ∙ round (graph_of c.args.tasks p ws (length ts) ts) c.loop-mid.mid c.loop-mid.table (omega arith) (c.loop-mid.invariant p ws)

pub returns : goal.returns
returns c p ws =
    let ts = c.args.transfers.now in
    let z : c.loop-mid.mid ≡ c.args.tasks = omega arith in
    c.loop-mid.invariant p ws ∙ ap (λ (m : ℕ). table_of (reach (graph_of c.args.tasks p ws (length ts) ts) m)) z
