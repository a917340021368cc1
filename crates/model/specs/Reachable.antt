use Rattle.std.specs.Prelude.{◌≡◌, ℕ, ◌<◌, false}
use Rattle.model.specs.Graph.{Graph}
use Rattle.model.specs.Partial.{Partial, Free, append}
use Rattle.model.specs.NormalForm.{Renamed, Normal}

abbrev pub Empty : Graph → Partial → Type 0
Empty g s = (t : ℕ) → t < g.tasks → s.placed t ≡ false

-- a partial schedule that comes from the empty one by appends of free tasks, each put into normal form
pub data Reachable (g : Graph) : Partial → Type 0 where
  none : {s : Partial} → Empty g s → Reachable g s
  more : {s c : Partial} (t m : ℕ) → Reachable g s → Free g s t → m < g.machines
      → Renamed g (append g s t m) c → Normal g c → Reachable g c
