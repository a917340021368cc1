use Rattle.std.proofs.Common.{◌≡◌, length, sym, ap, ◌∙◌, subst, arith}
use Rattle.partial.specs.Meaning.{the_partial}
use Rattle.nodes.specs.Hash.{bucket_of}
use Rattle.nodes.proofs.Walking.{Walked, walk_starts, walk_above, walk_inside, walk_goes, walk_finds, walk_ends}
use Rattle.nodes.proofs.table.Table.is_held.Goals as goal

pub loop-at-init : goal.loop-at-init
loop-at-init c =
    let t = c.args.self.now in
    let many : c.len.result ≡ length t.heads.items = omega (arith, t.heads.ok.0) in
    walk_starts t c.args.used (the_partial c.args.q.now) c.bucket.result (c.bucket.ensures.is ∙ ap (bucket_of (the_partial c.args.q.now)) many) (omega arith) c.index-at.result.now c.index-at.ensures

pub is_sought-requires : goal.is_sought-requires
is_sought-requires c =
    let t = c.args.self.now in
    record {
      above = walk_above t c.args.used (the_partial c.args.q.now) c.loop-at.at c.loop-at.invariant c.in-Some.i c.in-Some.is;
      within = walk_inside t c.args.used (the_partial c.args.q.now) c.loop-at.at c.loop-at.invariant c.in-Some.i c.in-Some.is;
    }

pub index-at-requires-in-Some : goal.index-at-requires-in-Some
index-at-requires-in-Some c =
    let t = c.args.self.now in
    omega (arith, walk_inside t c.args.used (the_partial c.args.q.now) c.loop-at.at c.loop-at.invariant c.in-Some.i c.in-Some.is, t.links.room, t.next.ok.0)

pub returns-then-is_sought : goal.returns-then-is_sought
returns-then-is_sought c = walk_finds c.args.self.now c.args.used (the_partial c.args.q.now) c.requires c.loop-at.at c.loop-at.invariant c.in-Some.i c.in-Some.is (sym c.is_sought.ensures ∙ c.if-is_sought.true)

pub loop-at-smaller : goal.loop-at-smaller
loop-at-smaller c = (walk_goes c.args.self.now c.args.used (the_partial c.args.q.now) c.loop-at.at c.loop-at.invariant c.in-Some.i c.in-Some.is (sym c.is_sought.ensures ∙ c.if-is_sought.false) c.index-at-in-Some.result.now c.index-at-in-Some.ensures).1

pub loop-at-preserved : goal.loop-at-preserved
loop-at-preserved c = (walk_goes c.args.self.now c.args.used (the_partial c.args.q.now) c.loop-at.at c.loop-at.invariant c.in-Some.i c.in-Some.is (sym c.is_sought.ensures ∙ c.if-is_sought.false) c.index-at-in-Some.result.now c.index-at-in-Some.ensures).0

pub returns : goal.returns
returns c = walk_ends c.args.self.now c.args.used (the_partial c.args.q.now) c.requires (subst (Walked c.args.self.now c.args.used (the_partial c.args.q.now)) c.in_default.is c.loop-at.invariant)
