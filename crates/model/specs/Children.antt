use Rattle.std.specs.Prelude.{◌≡◌, ℕ, ◌<◌, Bool, true, not, ◌&&◌, ◌⊎◌, List, ◌++◌, map, filter, flat_map}
use Rattle.std.specs.List.{range_with_len}
use Rattle.model.specs.Range.{any, every}
use Rattle.model.specs.Graph.{Graph}
use Rattle.model.specs.Partial.{Partial, lies_on, is_free, append}
use Rattle.model.specs.NormalForm.{normal_form}

-- a machine is used when a task is placed on it
abbrev pub Used : Graph → Partial → ℕ → Type 0
Used g s m = (u : ℕ) × (u < g.tasks) × (s.placed u ≡ true) × (s.machine u ≡ m)

abbrev pub LowestEmpty : Graph → Partial → ℕ → Type 0
LowestEmpty g s m = (m < g.machines) × (Used g s m → ⊥) × ((j : ℕ) → j < m → Used g s j)

-- a task is tried on the used machines and on the lowest empty one
abbrev pub Tried : Graph → Partial → ℕ → Type 0
Tried g s m = Used g s m ⊎ LowestEmpty g s m

-- the test for a used machine
abbrev pub is_used : Graph → Partial → ℕ → Bool
is_used g s m = any g.tasks (lies_on s m)

-- the test for the lowest empty machine
abbrev pub is_lowest_empty : Graph → Partial → ℕ → Bool
is_lowest_empty g s m = not (is_used g s m) && every m (is_used g s)

-- the numbers below n that pass, ascending
abbrev pub passing : ℕ → (ℕ → Bool) → List ℕ
passing n f = filter f (range_with_len 0 n)

-- each used machine ascending, then the lowest empty one if there is one
unfoldable pub tried : Graph → Partial → List ℕ
tried g s = passing g.machines (is_used g s) ++ passing g.machines (is_lowest_empty g s)

-- each free task ascending, on each machine that it is tried on
unfoldable pub choices : Graph → Partial → List (ℕ × ℕ)
choices g s = flat_map (λ t. map (λ m. (t, m)) (tried g s)) (passing g.tasks (is_free g s))

-- of two machines tried the one that comes first is used, and if the other is used too, it is the lower one
abbrev pub MachineFirst : Graph → Partial → ℕ → ℕ → Type 0
MachineFirst g s m k = Used g s m × (Used g s k → m < k)

-- of two choices the lower task comes first, and of one task the machine that does
abbrev pub ChoiceFirst : Graph → Partial → ℕ × ℕ → ℕ × ℕ → Type 0
ChoiceFirst g s x y = (x.0 < y.0) ⊎ ((x.0 ≡ y.0) × MachineFirst g s x.1 y.1)

-- what comes of a choice: the task appended on the machine, in normal form
abbrev pub child : Graph → Partial → ℕ × ℕ → Partial
child g s x = normal_form g (append g s x.0 x.1)

-- the children of a partial schedule, in order
abbrev pub children : Graph → Partial → List Partial
children g s = map (child g s) (choices g s)
