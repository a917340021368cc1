use Rattle.std.specs.Prelude.{◌≡◌, ℕ, zero, suc, ◌+◌, ◌<◌, Bool, true, false, if◌then◌else◌, not, ◌&&◌}
use Rattle.model.specs.Range.{put}
use Rattle.model.specs.Graph.{Graph}
use Rattle.model.specs.Partial.{Partial}

-- a renaming of the machines below p: a bijection of 0 .. p - 1, with its inverse
pub record Renaming (p : ℕ) : Type 0 where
  pub to : ℕ → ℕ
  pub back : ℕ → ℕ
  pub low : (m : ℕ) → m < p → to m < p
  pub low_back : (m : ℕ) → m < p → back m < p
  pub there : (m : ℕ) → back (to m) ≡ m
  pub here : (m : ℕ) → to (back m) ≡ m

-- the placed tasks lie on machines of the graph
abbrev pub OnMachines : Graph → Partial → Type 0
OnMachines g s = (t : ℕ) → t < g.tasks → s.placed t ≡ true → s.machine t < g.machines

-- the same tasks placed at the same starts, together on machines as before
pub record Renamed (g : Graph) (s c : Partial) : Type 0 where
  pub tasks : (t : ℕ) → t < g.tasks → c.placed t ≡ s.placed t
  pub starts : (t : ℕ) → t < g.tasks → s.placed t ≡ true → c.start t ≡ s.start t
  pub low : (t : ℕ) → t < g.tasks → s.placed t ≡ true → c.machine t < g.machines
  pub joint : (t u : ℕ) → t < g.tasks → u < g.tasks → s.placed t ≡ true → s.placed u ≡ true
      → (s.machine t ≡ s.machine u → c.machine t ≡ c.machine u)
      × (c.machine t ≡ c.machine u → s.machine t ≡ s.machine u)

-- machine 0 holds the lowest placed task, machine 1 the lowest elsewhere, and so on
abbrev pub Normal : Graph → Partial → Type 0
Normal g s = (t k : ℕ) → t < g.tasks → s.placed t ≡ true → k < s.machine t
    → (u : ℕ) × (u < t) × (s.placed u ≡ true) × (s.machine u ≡ k)

-- names given to machines by going through the tasks: which machines have one, which it is, and the next
pub record Names : Type 0 where
  pub seen : ℕ → Bool
  pub name : ℕ → ℕ
  pub next : ℕ

-- machine m takes the next name if a task is placed there and it has none
abbrev pub note : ℕ → Bool → Names → Names
note m b n =
    if b && not (n.seen m)
    then record { seen = put n.seen m true; name = put n.name m n.next; next = n.next + 1 }
    else n

-- the names that the tasks below t give
abbrev pub naming : Partial → ℕ → Names
naming s zero = record { seen = λ _. false; name = λ _. 0; next = 0 }
naming s (suc t) = note (s.machine t) (s.placed t) (naming s t)

-- every placed task under its machine's new name
unfoldable pub normal_form : Graph → Partial → Partial
normal_form g s = record {
  placed = s.placed;
  machine = λ t. if s.placed t then (naming s g.tasks).name (s.machine t) else 0;
  start = s.start;
}

-- the normal form renames machines: some bijection takes the machine of each placed task to its new name
abbrev pub Renames : Graph → Partial → Partial → Type 0
Renames g s c = (π : Renaming g.machines)
    × ((t : ℕ) → t < g.tasks → s.placed t ≡ true → c.machine t ≡ π.to (s.machine t))

-- the same tasks placed, on the same machines at the same starts
pub record Same (g : Graph) (a b : Partial) : Type 0 where
  pub tasks : (t : ℕ) → t < g.tasks → a.placed t ≡ b.placed t
  pub machines : (t : ℕ) → t < g.tasks → b.placed t ≡ true → a.machine t ≡ b.machine t
  pub starts : (t : ℕ) → t < g.tasks → b.placed t ≡ true → a.start t ≡ b.start t
