use Rattle.std.proofs.Common.{◌≡◌, ℕ, ◌<◌, ◌≤◌, ◌≢◌, false, List, [], ◌∷◌, length, set, sym, refl, ap, ◌∙◌, subst, arith, length-set, get_or-set_same, get_or-set_other}
use borrow.Author.Clash.{clash}
use Rattle.std.proofs.lemmas.Bool.{eq-eqb, le-leb, and_from}
use Rattle.std.specs.List.{Contains}
use Rattle.model.specs.Graph.{Graph, Lawful}
use Rattle.model.specs.Partial.{Partial, Complete, nothing}
use Rattle.model.specs.Reachable.{Reachable}
use Rattle.model.specs.Reachable.Reachable.{none}
use Rattle.model.specs.Bounds.{Bound, IsLowerBound}
use Rattle.model.specs.Nodes.{SearchNode, no_node, node_at}
use Rattle.model.proofs.Membership.{contains-first}
use Rattle.astar.specs.States.{SearchState, best_node, waiting_node, entry}
use Rattle.astar.specs.Opening.{opened}
use Rattle.astar.specs.Invariant.{InUse, Grown, Listed, Distinct, All}
use Rattle.astar.specs.Laws.{OpeningStands, OpeningFills}
use Rattle.astar.proofs.Growth.{FreshNode, BestNode}

-- A search that is opened stands.

module _ (g : Graph) (b : Bound) (s : Partial) (ns : List SearchNode) (L : Lawful g) (lower : IsLowerBound b) (R : Reachable g s) (full : Complete g s) (two : 2 ≤ length ns) where
  abbrev w : SearchState
  w = opened g b s ns

  abbrev root : SearchNode
  root = waiting_node nothing (b g nothing)

  zeroth : node_at w.nodes 0 ≡ best_node g s
  zeroth =
      let ne : 0 ≢ 1 = omega arith in
      get_or-set_other (set ns 0 (best_node g s)) 1 0 root no_node ne ∙ get_or-set_same ns 0 (best_node g s) no_node (omega arith)

  first : node_at w.nodes 1 ≡ root
  first = get_or-set_same (set ns 0 (best_node g s)) 1 root no_node (omega (arith, length-set ns 0 (best_node g s)))

  size : length w.nodes ≡ length ns
  size = length-set (set ns 0 (best_node g s)) 1 root ∙ length-set ns 0 (best_node g s)

  root-fresh : FreshNode g root
  root-fresh = (none (λ t h. refl), (0, L.numbers.sizes.0, refl), (λ t h. refl), (λ p C. lower g nothing p L (none (λ t h. refl)) (λ t h. refl) C), refl)

  one : (i : ℕ) → InUse w i → i ≡ 1
  one i u = omega (arith, u.0, u.1)

  -- what holds of the root holds of each used node
  at : (P : SearchNode → Type 0) → P root → (i : ℕ) → InUse w i → P (node_at w.nodes i)
  at P p i u = subst (λ j. P (node_at w.nodes j)) (sym (one i u)) (subst P (sym first) p)

  pub opened-grown : Grown g All (opened g b s ns)
  opened-grown = record {
    reachable = at (λ x. Reachable g x.partial) root-fresh.0;
    unfinished = λ i u. (at (FreshNode g) root-fresh i u).1;
    tasks = λ i t u. (at (FreshNode g) root-fresh i u).2 t;
    under = λ i u. (at (FreshNode g) root-fresh i u).3;
    visited = λ i x u q. clash (node_at w.nodes i).waiting (at (FreshNode g) root-fresh i u).4 q;
    root = (1, (omega arith, omega arith), subst (λ (x : SearchNode). (t : ℕ) → t < g.tasks → x.partial.placed t ≡ false) (sym first) (λ t h. refl));
    best = subst (BestNode g) (sym zeroth) (R, full, refl);
    room = omega (arith, size);
  }

  pub opened-listed : Listed (opened g b s ns)
  opened-listed = record {
    right = (((omega arith, omega arith), ap (λ (x : SearchNode). x.waiting) first, ap (λ (x : SearchNode). x.bound) first), tt);
    there = λ i u q. subst (λ j. Contains (entry (b g nothing) 1 ∷ []) (entry (node_at w.nodes j).bound j)) (sym (one i u))
        (subst (λ (x : SearchNode). Contains (entry (b g nothing) 1 ∷ []) (entry x.bound 1)) (sym first) (contains-first (entry (b g nothing) 1) []));
    once = (tt, tt);
    order = (tt, tt);
  }

  pub opened-apart : Distinct (opened g b s ns)
  opened-apart = record {
    distinct = λ i j u v ne d. ne (one i u ∙ sym (one j v));
    zeroth = ap (λ (x : SearchNode). x.waiting) zeroth;
  }

  pub opened-size : length (opened g b s ns).nodes ≡ length ns
  opened-size = size

pub opening-stands : OpeningStands
opening-stands g b s ns limit L lower R full two fits = record {
  own = and_from _ _ (eq-eqb g.tasks g.tasks refl) (and_from _ _ (eq-eqb g.machines g.machines refl) (and_from _ _ (eq-eqb _ _ size)
      (and_from _ _ refl (le-leb (length (opened g b s ns).nodes) limit (omega (arith, size))))));
  invariant = record {
    grown = opened-grown g b s ns L lower R full two;
    listed = opened-listed g b s ns L lower R full two;
    counted = record { made = refl; waiting = refl; listed = refl };
    apart = opened-apart g b s ns L lower R full two;
  };
}
  where
    size : length (opened g b s ns).nodes ≡ length ns
    size = opened-size g b s ns L lower R full two

-- what opening fills the table and the list with
pub opening-fills : OpeningFills
opening-fills g b s ns two =
    let first : List SearchNode = set ns 0 (best_node g s) in
    let root : SearchNode = waiting_node nothing (b g nothing) in
    let away : 0 ≢ 1 = omega arith in
    record {
      best = get_or-set_other first 1 0 root no_node away ∙ get_or-set_same ns 0 (best_node g s) no_node (omega (arith, two));
      root = get_or-set_same first 1 root no_node (omega (arith, two, length-set ns 0 (best_node g s)));
      others = λ j l.
          let a : j ≢ 1 = omega (arith, l) in
          let z : j ≢ 0 = omega (arith, l) in
          get_or-set_other first 1 j root no_node a ∙ get_or-set_other ns 0 j (best_node g s) no_node z;
      size = length-set first 1 root ∙ length-set ns 0 (best_node g s);
      list = refl;
      tally = refl;
    }
