use Rattle.std.specs.Prelude.{◌≡◌, ℕ, zero, suc, ◌+◌, ◌<◌, ◌≤◌, if◌then◌else◌, ◌==◌, ◌≢◌}
use Rattle.model.specs.Range.{top}

-- a task graph: tasks and machines numbered from 0, the work of each task, and `count` transfers,
-- each from a task to a task at a cost
pub record Graph : Type 0 where
  pub tasks : ℕ
  pub machines : ℕ
  pub count : ℕ
  pub work : ℕ → ℕ
  pub from : ℕ → ℕ
  pub to : ℕ → ℕ
  pub cost : ℕ → ℕ

-- a chain of transfers leads from one task to another
pub data Chain (g : Graph) : ℕ → ℕ → Type 0 where
  link : (k : ℕ) → k < g.count → Chain g (g.from k) (g.to k)
  join : {a b c : ℕ} → Chain g a b → Chain g b c → Chain g a c

-- a chain that comes back to its first task is a cycle
abbrev pub OnCycle : Graph → ℕ → Type 0
OnCycle g t = Chain g t t

abbrev pub Acyclic : Graph → Type 0
Acyclic g = (t : ℕ) → OnCycle g t → ⊥

-- transfers lead from task to task
abbrev pub Ends : Graph → Type 0
Ends g = (k : ℕ) → k < g.count → (g.from k < g.tasks) × (g.to k < g.tasks)

-- no transfer leads from a task to itself
abbrev pub Apart : Graph → Type 0
Apart g = (k : ℕ) → k < g.count → g.from k ≢ g.to k

-- two transfers that lead from one task to one task
abbrev pub SamePair : Graph → ℕ → ℕ → Type 0
SamePair g i j = (i < j) × (j < g.count) × (g.from i ≡ g.from j) × (g.to i ≡ g.to j)

abbrev pub Works : Graph → Type 0
Works g = (t : ℕ) → t < g.tasks → (1 ≤ g.work t) × (g.work t ≤ 1000)

abbrev pub Costs : Graph → Type 0
Costs g = (k : ℕ) → k < g.count → g.cost k ≤ 1000

abbrev pub Sizes : Graph → Type 0
Sizes g = (1 ≤ g.tasks) × (g.tasks ≤ 32) × (1 ≤ g.machines) × (g.machines ≤ 8) × (g.count ≤ 128)

-- the law of a graph but for cycles: what its numbers show one by one
pub record LawfulButForCycles (g : Graph) : Type 0 where
  pub sizes : Sizes g
  pub works : Works g
  pub costs : Costs g
  pub ends : Ends g
  pub apart : Apart g
  pub pairs : (i j : ℕ) → SamePair g i j → ⊥

-- the law of every graph that exists
pub record Lawful (g : Graph) : Type 0 where
  pub numbers : LawfulButForCycles g
  pub acyclic : Acyclic g

-- the sum of work along a chain of transfers that begins with a task
pub data ChainWork (g : Graph) : ℕ → ℕ → Type 0 where
  stop : {t : ℕ} → ChainWork g t (g.work t)
  go : {t v : ℕ} (k : ℕ) → k < g.count → g.from k ≡ t
      → ChainWork g (g.to k) v → ChainWork g t (g.work t + v)

-- the bottom level of a task: some chain that begins with it has this sum of work, and none has more; costs do not count
abbrev pub BottomLevel : Graph → ℕ → ℕ → Type 0
BottomLevel g t v = ChainWork g t v × ((w : ℕ) → ChainWork g t w → w ≤ v)

-- the greatest sum of work along chains of at most n transfers that begin with t
abbrev pub longest : Graph → ℕ → ℕ → ℕ
longest g zero t = g.work t
longest g (suc n) t = g.work t
    + top g.count (λ k. if g.from k == t then longest g n (g.to k) else 0)

-- without cycles no chain has more transfers than there are tasks
unfoldable pub level : Graph → ℕ → ℕ
level g t = longest g g.tasks t
