use Rattle.std.proofs.Common.{◌-◌, length, map}
use Rattle.std.specs.Prelude.{string_bytes}
use Rattle.planner.specs.Options.{settings}
use Rattle.planner.specs.Requests.{Sets}
use Rattle.planner.proofs.request.Request.of.Given as goal

abbrev pub invariant-loop-place : goal.invariant-loop-place
invariant-loop-place l = Sets (map string_bytes l.words) l.place (settings l.options)

abbrev pub decreases-loop-place : goal.decreases-loop-place
decreases-loop-place l = length l.words - l.place
