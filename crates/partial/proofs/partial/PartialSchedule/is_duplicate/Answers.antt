use Rattle.std.proofs.Common.{◌∙◌}
use Rattle.partial.proofs.Duplicates.{duplicate-test, duplicate-same}
use Rattle.partial.proofs.partial.PartialSchedule.is_duplicate.Goals as goal

pub returns : goal.returns
returns c =
    let p = c.args.self.now in
    let q = c.args.other.now in
    record {
      is = c.eq.ensures ∙ duplicate-test p.places q.places p.sized q.sized;
      same = duplicate-same p.places q.places c.eq.result c.eq.ensures;
    }
