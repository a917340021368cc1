use Rattle.std.specs.Prelude.{◌≡◌, ℕ, zero, suc, ◌<◌, ◌≤◌, if◌then◌else◌, ◌&&◌, ◌||◌, ◌==◌, Some, None, Option, nat_lt}
use Rattle.model.specs.Graph.{Graph, level}
use Rattle.model.specs.Partial.{Partial, nothing, Free, is_free, start_on, append}
use Rattle.model.specs.NormalForm.{normal_form}

-- of the free tasks below n the one with the greatest bottom level, the lowest among equals;
-- or the number of tasks
unfoldable pub next_task : Graph → Partial → ℕ → ℕ
next_task g s zero = g.tasks
next_task g s (suc t) =
    if is_free g s t
    && (next_task g s t == g.tasks || nat_lt (level g (next_task g s t)) (level g t))
    then t else next_task g s t

-- the next task, where one is free
abbrev pub next_free : Graph → Partial → Option ℕ
next_free g s =
    if nat_lt (next_task g s g.tasks) g.tasks then Some (next_task g s g.tasks) else None

-- of the machines below n the one where task t starts earliest, the lowest among equals
unfoldable pub earliest : Graph → Partial → ℕ → ℕ → ℕ
earliest g s t zero = 0
earliest g s t (suc m) =
    if nat_lt (start_on g s t m) (start_on g s t (earliest g s t m)) then m else earliest g s t m

-- task t appended where it starts earliest, in normal form
abbrev pub extend : Graph → Partial → ℕ → Partial
extend g s t = normal_form g (append g s t (earliest g s t g.machines))

-- the next task appended so: one step of the list schedule
abbrev pub one_more : Graph → Partial → Partial
one_more g s = extend g s (next_task g s g.tasks)

-- the list schedule after k tasks
unfoldable pub listed : Graph → ℕ → Partial
listed g zero = nothing
listed g (suc k) = one_more g (listed g k)

-- the rule in words: the free task with the greatest bottom level, among equals the lowest number
pub record Next (g : Graph) (s : Partial) (t : ℕ) : Type 0 where
  pub free : Free g s t
  pub greatest : (u : ℕ) → Free g s u → level g u ≤ level g t
  pub lowest : (u : ℕ) → Free g s u → level g u ≡ level g t → t ≤ u

-- the machine where it starts earliest, among equals the lowest
pub record Earliest (g : Graph) (s : Partial) (t m : ℕ) : Type 0 where
  pub low : m < g.machines
  pub least : (j : ℕ) → j < g.machines → start_on g s t m ≤ start_on g s t j
  pub lowest : (j : ℕ) → j < g.machines → start_on g s t j ≡ start_on g s t m → m ≤ j

-- partial schedules that come from the empty one by the rule, k tasks placed
pub data ByRule (g : Graph) : ℕ → Partial → Type 0 where
  none : ByRule g 0 nothing
  more : {k : ℕ} {s : Partial} (t m : ℕ) → ByRule g k s → Next g s t → Earliest g s t m
      → ByRule g (suc k) (normal_form g (append g s t m))
