use Rattle.std.proofs.Common.{◌≡◌, ℕ, zero, suc, ◌+◌, ◌-◌, ◌<◌, ◌≤◌, cond, eqb, ap, arith}
use Rattle.std.proofs.lemmas.Bool.{eqb-true}
use Rattle.model.specs.Range.{top}
use Rattle.model.specs.Graph.{Graph, longest, level}
use Rattle.model.specs.Schedule.{Schedule, Feasible, makespan}
use Rattle.model.specs.Partial.{is_free, data_ready}
use Rattle.model.specs.Bounds.{Bound, IsLowerBound, path_at, path_bound, arrival_at, arrival_bound, larger}
use Rattle.model.proofs.Range.{le-top, top-le, least-le, cond-le}
use Rattle.model.proofs.Minimal.{Dag}
use Rattle.model.proofs.Rules.{test-free}
use Rattle.model.proofs.Starts.{lawful-dag}
use Rattle.model.proofs.Moving.{ready-le}

-- in a feasible schedule the works along a chain follow one another
chain-ends : (g : Graph) → Dag g → (p : Schedule) → Feasible g p → (k t : ℕ) → t < g.tasks → p.start t + longest g k t ≤ makespan g p
chain-ends g S p M zero t ht = le-top g.tasks (λ t. p.start t + g.work t) t ht
chain-ends g S p M (suc k) t ht = go (chain-ends g S p M k)
  where
    go : ((t : ℕ) → t < g.tasks → p.start t + longest g k t ≤ makespan g p) → p.start t + (g.work t + top g.count (λ e. cond (eqb (g.from e) t) (longest g k (g.to e)) 0)) ≤ makespan g p
    go ih =
        let end : p.start t + g.work t ≤ makespan g p = le-top g.tasks (λ t. p.start t + g.work t) t ht in
        let room : ℕ = makespan g p - (p.start t + g.work t) in
        let rest = top-le g.count (λ e. cond (eqb (g.from e) t) (longest g k (g.to e)) 0) room (λ e he. cond-le (eqb (g.from e) t) (longest g k (g.to e)) room (λ q.
        let from_t : g.from e ≡ t = eqb-true _ _ q in
        omega (arith, M.after e he, ap p.start from_t, ap g.work from_t, ih (g.to e) (S.ends e he).1))) in
        omega arith

-- no task can start later than its bottom level before the end
pub level-ends : (g : Graph) → Dag g → (p : Schedule) → Feasible g p → (t : ℕ) → t < g.tasks → p.start t + level g t ≤ makespan g p
unfolding level
level-ends g S p M t ht = chain-ends g S p M g.tasks t ht

pub path-lower : IsLowerBound path_bound
path-lower g s p L R W C =
    let S = lawful-dag L in
    let ends = level-ends g S p C.feasible in
    let a = top-le g.tasks (level g) (makespan g p) (λ t h. omega (arith, ends t h)) in
    let b = top-le g.tasks (path_at g s) (makespan g p) (λ t h. cond-le (s.placed t) _ (makespan g p) (λ q. omega (arith, (C.keeps t h q).1, ends t h))) in
    omega arith

pub arrival-lower : IsLowerBound arrival_bound
arrival-lower g s p L R W C = top-le g.tasks (arrival_at g s) (makespan g p) (λ t h. cond-le (is_free g s t) _ (makespan g p) (λ q.
    let S = lawful-dag L in
    omega (arith, least-le g.machines (data_ready g s t) (p.machine t) (C.feasible.on t h), ready-le g S s p C t (test-free g s t q), level-ends g S p C.feasible t h)))

pub larger-lower : (a b : Bound) → IsLowerBound a → IsLowerBound b → IsLowerBound (larger a b)
larger-lower a b x y g s p L R W C = omega (arith, x g s p L R W C, y g s p L R W C)
