use Rattle.std.proofs.Common.{◌≡◌, ◌-◌, ◌≤◌, length}
use Rattle.loader.specs.Layout.{place_of}
use Rattle.loader.specs.Parse.{after, reading}
use Rattle.loader.proofs.read.read_transfers.Given as goal

abbrev pub invariant-loop-transfer : goal.invariant-loop-transfer
invariant-loop-transfer l = (after l.fn.records.bytes.now l.sizes.tasks (length l.transfers) ≡ reading l.transfers) × (l.records.at ≡ place_of l.sizes.tasks (length l.transfers)) × (l.records.bytes.now ≡ l.fn.records.bytes.now) × (length l.transfers ≤ 128)

abbrev pub decreases-loop-transfer : goal.decreases-loop-transfer
decreases-loop-transfer l = 129 - length l.transfers
