use Rattle.cases.proofs.Calls.{calls, ranges, usages, faults, limits, explained, streams, wants}
use Rattle.cases.proofs.program.program_cases.Goals as goal

pub returns : goal.returns
returns c = record { calls = calls; ranges = ranges; usages = usages; faults = faults; limits = limits; explained = explained; streams = streams; wants = wants }
