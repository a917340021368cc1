use Rattle.std.proofs.Common.{◌≡◌, ℕ, ◌<◌, ◌≤◌, max, true, false, List, [], ◌∷◌}
use Rattle.std.proofs.lemmas.Bool.{ltb-true, ltb-false, leb-true, cond_both}
use Rattle.std.specs.Prelude.{slice_set}
use Rattle.std.specs.List.{fold}
use Rattle.model.specs.Graph.{Graph}
use Rattle.model.specs.Schedule.{makespan}
use Rattle.model.specs.Partial.{Partial, whole}
use Rattle.model.specs.Children.{choices, child}
use Rattle.model.specs.Bounds.{Bound}
use Rattle.model.specs.Nodes.{SearchNode, node_at, is_held}
use Rattle.model.specs.Soundness.{is_complete}
use Rattle.astar.specs.States.{SearchState, used, best_length, best_node, count_complete}
use Rattle.astar.specs.Expansion.{pruned, repeated, stored, visited, visited_by, taken, expanded}

-- What becomes of a child is one of five things.

-- it is the best schedule from then on
abbrev pub bettered : Graph → SearchState → Partial → SearchState
bettered g w c = record w { tally = count_complete w.tally; nodes = slice_set w.nodes 0 (best_node g c) }

-- it is complete and not shorter
abbrev pub passed : SearchState → SearchState
passed w = record w { tally = count_complete w.tally }

module _ (g : Graph) (b : Bound) (up : ℕ) (w : SearchState) (c : Partial) (P : SearchState → Type 0) where
  pub visit-parts :
      (is_complete g c ≡ true → makespan g (whole c) < best_length w → P (bettered g w c))
      → (is_complete g c ≡ true → best_length w ≤ makespan g (whole c) → P (passed w))
      → (best_length w ≤ max up (b g c) → P (pruned w))
      → (is_held w.nodes (used w) c ≡ true → P (repeated w))
      → (is_complete g c ≡ false → is_held w.nodes (used w) c ≡ false → P (stored w c (max up (b g c))))
      → P (visited g b up w c)
  unfolding visited
  visit-parts better passes prunes repeats stores = cond_both _ _ _ P
      (λ e. cond_both _ _ _ (λ ns. P (record { tally = count_complete w.tally; nodes = ns; bag = w.bag })) (λ q. better e (ltb-true _ _ q)) (λ q. passes e (ltb-false _ _ q)))
      (λ e. cond_both _ _ _ P (λ q. prunes (leb-true _ _ q)) (λ q. cond_both _ _ _ P repeats (λ h. stores e h)))

  pub visit-cases :
      (is_complete g c ≡ true → makespan g (whole c) < best_length w → P (bettered g w c))
      → (is_complete g c ≡ true → best_length w ≤ makespan g (whole c) → P (passed w))
      → (best_length w ≤ max up (b g c) → P (pruned w))
      → (is_held w.nodes (used w) c ≡ true → P (repeated w))
      → (is_complete g c ≡ false → P (stored w c (max up (b g c))))
      → P (visited g b up w c)
  visit-cases better passes prunes repeats stores = visit-parts better passes prunes repeats (λ e h. stores e)

-- what taking a node leaves and each visit of a child keeps holds once the node is expanded
pub expansion-visits : (g : Graph) (b : Bound) (w : SearchState) (i : ℕ) (P : SearchState → Type 0)
    → ((v : SearchState) (c : Partial) → P v → P (visited g b (node_at w.nodes i).bound v c)) → P (taken w i) → P (expanded g b w i)
unfolding expanded
expansion-visits g b w i P visit = all (choices g x.partial) (taken w i)
  where
    x : SearchNode
    x = node_at w.nodes i

    all : (todo : List (ℕ × ℕ)) (v : SearchState) → P v → P (fold (visited_by g b x) v todo)
    all [] v p = p
    all (c ∷ todo) v p = all todo (visited_by g b x v c) (visit v (child g x.partial c) p)
