use Rattle.std.specs.Prelude.{ℕ, ◌+◌, ◌*◌}

-- where the record after the tasks and k transfers begins
abbrev pub place_of : ℕ → ℕ → ℕ
place_of tasks k = 8 + 6 * tasks + 10 * k
