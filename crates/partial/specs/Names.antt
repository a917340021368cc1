use Rattle.std.specs.Prelude.{None, is_some, slice_index_or}
use Rattle.std.specs.Option.{unwrap_or}
use Rattle.model.specs.NormalForm as M
use Rattle.partial.specs.declared.names.Names.{Names}
use Rattle.partial.specs.declared.placement.Placement.{Placement}

-- the names that a value means: a machine without one reads as 0
abbrev pub the_names : Names → M.Names
the_names n = record {
  seen = λ m. is_some (slice_index_or n.names m None);
  name = λ m. unwrap_or (slice_index_or n.names m None) 0;
  next = n.next;
}

-- a placement under its machine's new name
abbrev pub renamed : M.Names → Placement → Placement
renamed n x = record { machine = n.name x.machine; start = x.start }
