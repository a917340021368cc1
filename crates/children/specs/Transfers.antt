use Rattle.std.specs.Prelude.{Bool, not, ◌||◌}
use Rattle.model.specs.Partial.{Partial}
use Rattle.loader.specs.declared.transfer.Transfer.{Transfer}

-- a transfer leads from a placed task if it leads to one
abbrev pub transfer_comes_after : Partial → Transfer → Bool
transfer_comes_after s e = not (s.placed e.to) || s.placed e.from
