use Rattle.std.proofs.Common.{◌≡◌, ℕ, ◌<◌, ◌≤◌, ◌≢◌, max, true, false, ◌∙◌, arith}
use Rattle.std.specs.List.{Contains}
use Rattle.model.specs.Graph.{Graph, Lawful}
use Rattle.model.specs.Schedule.{Schedule, makespan}
use Rattle.model.specs.Partial.{Partial, Free, append}
use Rattle.model.specs.NormalForm.{normal_form}
use Rattle.model.specs.Reachable.{Reachable}
use Rattle.model.specs.Completion.{Completion}
use Rattle.model.specs.Children.{choices, child}
use Rattle.model.specs.Bounds.{Bound, IsLowerBound}
use Rattle.model.proofs.Range.{put_other}
use Rattle.model.proofs.Rules.{reachable-obeys, child-reachable}
use Rattle.model.proofs.Starts.{lawful-dag}
use Rattle.model.proofs.Completions.{child-completion}
use Rattle.model.proofs.Choosing.{choices-are, tried-low}

-- What is known of a child of a reachable partial schedule.

module _ (g : Graph) (L : Lawful g) (s : Partial) (R : Reachable g s) (x : ℕ × ℕ) (c : Contains (choices g s) x) where
  chosen-task : Free g s x.0
  chosen-task = ((choices-are g s x.0 x.1 (reachable-obeys g (lawful-dag L) R).on).0 c).0

  chosen-machine : x.1 < g.machines
  chosen-machine =
      let on = (reachable-obeys g (lawful-dag L) R).on in
      tried-low g s x.1 on ((choices-are g s x.0 x.1 on).0 c).1

  pub chosen-reachable : Reachable g (child g s x)
  chosen-reachable = child-reachable g (lawful-dag L) s x.0 x.1 R chosen-task chosen-machine

  -- it places one task more, which is one of the graph's
  pub chosen-tasks : ((t : ℕ) → g.tasks ≤ t → s.placed t ≡ false) → (t : ℕ) → g.tasks ≤ t → (child g s x).placed t ≡ false
  unfolding normal_form append
  chosen-tasks none t h =
      let ne : t ≢ x.0 = omega (arith, chosen-task.0) in
      put_other s.placed x.0 true t ne ∙ none t h

  -- its bound, the greater of its parent's and a rule's, is one
  pub chosen-under : ((t : ℕ) → g.tasks ≤ t → s.placed t ≡ false) → (b : Bound) → IsLowerBound b → (up : ℕ) → ((p : Schedule) → Completion g s p → up ≤ makespan g p)
      → (p : Schedule) → Completion g (child g s x) p → max up (b g (child g s x)) ≤ makespan g p
  chosen-under none b lower up under p C =
      let q = child-completion g s x.0 x.1 p L R chosen-task chosen-machine C in
      omega (arith, q.2, under _ q.1, lower g (child g s x) p L chosen-reachable (chosen-tasks none) C)
