use Rattle.std.specs.Prelude.{◌≡◌, ℕ, ◌<◌, ◌≤◌, ◌↔◌, Contains, AllPairs}
use Rattle.model.specs.Graph.{Graph, Ends, Acyclic, Lawful}
use Rattle.model.specs.Cycles.{cyclic, LowestOnCycle}
use Rattle.model.specs.Schedule.{Schedule, Feasible, makespan}
use Rattle.model.specs.Partial.{Partial, Free, Complete, Unfinished, whole}
use Rattle.model.specs.NormalForm.{Renaming, OnMachines}
use Rattle.model.specs.Reachable.{Reachable, Empty}
use Rattle.model.specs.Completion.{Completion, on_renamed}
use Rattle.model.specs.Children.{Tried, ChoiceFirst, choices, child, children}

-- the test for a cycle answers the lowest task on one, or the number of tasks where there is none
abbrev pub CycleTestDecides : Type 0
CycleTestDecides = (g : Graph) → Ends g
    → (cyclic g < g.tasks → LowestOnCycle g (cyclic g)) × (g.tasks ≤ cyclic g → Acyclic g)

-- every feasible schedule completes the empty partial schedule
abbrev pub FeasibleCompletesEmpty : Type 0
FeasibleCompletesEmpty = (g : Graph) (s : Partial) (p : Schedule) → Empty g s → Feasible g p
    → Completion g s p

-- what completes a child completes its parent, under other names of machines and as long
abbrev pub ChildCompletesParent : Type 0
ChildCompletesParent = (g : Graph) (s : Partial) (t m : ℕ) (p : Schedule) → Lawful g
    → Reachable g s → Free g s t → m < g.machines → Completion g (child g s (t, m)) p
    → (π : Renaming g.machines) × Completion g s (on_renamed π p)
    × (makespan g (on_renamed π p) ≡ makespan g p)

-- the choices are the free tasks on the machines that they are tried on, for every partial schedule on machines of the
-- graph
abbrev pub ChoicesAre : Type 0
ChoicesAre = (g : Graph) (s : Partial) (t m : ℕ) → OnMachines g s
    → Contains (choices g s) (t, m) ↔ (Free g s t × Tried g s m)

-- and they stand in order: each comes first, seen from each later one
abbrev pub ChoicesInOrder : Type 0
ChoicesInOrder = (g : Graph) (s : Partial) → AllPairs (ChoiceFirst g s) (choices g s)

-- where a partial schedule that lacks a task has a completion, some child has one that is no longer
abbrev pub ChildrenCover : Type 0
ChildrenCover = (g : Graph) (s : Partial) (p : Schedule) → Lawful g → Reachable g s
    → Unfinished g s → Completion g s p
    → (c : Partial) × Contains (children g s) c
    × (q : Schedule) × Completion g c q × (makespan g q ≤ makespan g p)

-- a complete partial schedule that is reachable is feasible
abbrev pub CompleteIsFeasible : Type 0
CompleteIsFeasible = (g : Graph) (s : Partial) → Lawful g → Reachable g s → Complete g s
    → Feasible g (whole s)
