use Rattle.std.specs.Prelude.{ℕ, List, length, if◌then◌else◌, ◌==◌, slice_index, slice_index_or}
use Rattle.model.specs.Range.{top}
use Rattle.loader.specs.declared.transfer.Transfer.{Transfer}
use Rattle.loader.specs.View.{blank}

-- the greatest level where a transfer from task t leads, or 0
abbrev pub greatest_after : List Transfer → List ℕ → ℕ → ℕ
greatest_after ts low t = top (length ts) (λ k.
    if (slice_index_or ts k blank).from == t
    then slice_index low (slice_index_or ts k blank).to
    else 0)
