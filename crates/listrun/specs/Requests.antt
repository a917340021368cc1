use Rattle.std.specs.Prelude.{ℕ, ◌+◌, ◌*◌, ◌/◌, ◌%◌, Bool, if◌then◌else◌, ◌==◌, nat_lt}
use Rattle.listrun.specs.declared.request.Request.{Request}
use Rattle.listrun.specs.declared.request.Request.TheVariants.{Put, Look, Take}
use Rattle.listrun.specs.declared.request.Requests.{Requests}

-- what is drawn from a state
abbrev pub drawn : Requests → ℕ
drawn q = q.state / 65536

-- whether it is a put: three in four, one in four, always, never, in turns of 256
abbrev pub puts : ℕ → ℕ → Bool
puts turn d =
    if turn == 0 then nat_lt (d % 4) 3 else (if turn == 1 then nat_lt (d % 4) 1 else turn == 2)

-- the next request: a look, one in eight, or a put or a take
abbrev pub requested : Requests → Request
requested q =
    if drawn q / 1024 % 8 == 0 then Look
    else (
    if puts (q.number / 256 % 4) (drawn q)
    then Put (record { bound = drawn q / 4 % 12; node = drawn q / 64 % 40 })
    else Take
    )

-- the state after it
abbrev pub onward : Requests → Requests
onward q = record {
  number = (q.number + 1) % 4294967296;
  state = (q.state * 1664525 + 1013904223) % 4294967296;
}
