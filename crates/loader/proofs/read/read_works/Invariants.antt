use Rattle.std.proofs.Common.{◌≡◌, ◌+◌, ◌*◌, length, take, Ok}
use Rattle.loader.specs.Parse.{read_works}
use Rattle.loader.proofs.read.read_works.Given as goal

abbrev pub invariant-loop-work : goal.invariant-loop-work
invariant-loop-work l = (read_works l.fn.records.bytes.now l.work-index ≡ Ok (take l.work-index l.work-items)) × (l.records.at ≡ 8 + 6 * l.work-index) × (l.records.bytes.now ≡ l.fn.records.bytes.now) × (length l.work-items ≡ l.fn.sizes.tasks)
