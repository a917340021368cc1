use Rattle.std.specs.Prelude.{ℕ, ◌+◌, Bool, if◌then◌else◌, not, ◌||◌, ◌==◌}
use Rattle.model.specs.Graph.{Graph}
use Rattle.model.specs.Partial.{Partial}
use Rattle.loader.specs.declared.transfer.Transfer.{Transfer}

-- when the data of a transfer arrives on machine m: its cost counts between machines only
abbrev pub transfer_arrival : Graph → Partial → ℕ → Transfer → ℕ
transfer_arrival g s m e =
    s.start e.from + g.work e.from + (if s.machine e.from == m then 0 else e.cost)

-- a transfer leads elsewhere than to task t, or from a placed task
abbrev pub transfer_fed : Partial → ℕ → Transfer → Bool
transfer_fed s t e = not (e.to == t) || s.placed e.from
