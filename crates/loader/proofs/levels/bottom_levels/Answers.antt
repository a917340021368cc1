use Rattle.std.proofs.Common.{◌≡◌, ℕ, List, length, get_or, ap, ◌∙◌, arith}
use Rattle.model.specs.Graph.{longest, level}
use Rattle.model.proofs.Levels.{longest-small, longest-more}
use Rattle.loader.specs.View.{graph_of}
use Rattle.loader.proofs.Tables.{get_or-each_task}
use Rattle.loader.proofs.levels.bottom_levels.Goals as goal

pub loop-round-init : goal.loop-round-init
loop-round-init c p t h =
    let ws = c.args.works.now in
    ap (λ (l : List ℕ). get_or l t 0) c.widened-low.ensures ∙ get_or-each_task (λ t. get_or ws t 0) 0 t (omega arith)

pub raised-low-requires : goal.raised-low-requires
raised-low-requires c t h =
    let ws = c.args.works.now in
    let ts = c.args.transfers.now in
    let g = graph_of (length ws) 0 ws (length ts) ts in
    omega (arith, c.loop-round.invariant 0 t h, longest-small g c.requires.ends c.requires.small c.loop-round._round t h, c.loop-round-test.true, c.requires.sizes)

pub loop-round-preserved : goal.loop-round-preserved
loop-round-preserved c p t h =
    let ws = c.args.works.now in
    let ts = c.args.transfers.now in
    let g = graph_of (length ws) p ws (length ts) ts in
    c.raised-low.ensures t h ∙ longest-more g c.requires.ends (λ t. get_or c.loop-round.low t 0) c.loop-round._round (c.loop-round.invariant p) t

pub returns : goal.returns
unfolding level
returns c p t h =
    let ws = c.args.works.now in
    let ts = c.args.transfers.now in
    let g = graph_of (length ws) p ws (length ts) ts in
    c.loop-round.invariant p t h ∙ ap (λ (k : ℕ). longest g k t) (let z : c.loop-round._round ≡ length ws = omega arith in z)
