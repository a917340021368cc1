use Rattle.std.proofs.Common.{◌≡◌, ℕ, ◌<◌, Bool, true, false, ◌&&◌, nat_lt, IsTrue, ◌↔◌, sym, ap, ◌∙◌, subst, arith}
use borrow.Author.Clash.{clash}
use Rattle.std.proofs.lemmas.Bool.{lt-ltb, ltb-true, and_from, and_parts}
use Rattle.model.specs.Graph.{Graph}
use Rattle.model.specs.Partial.{Partial, Free, is_ready, is_free, append}
use Rattle.model.specs.NormalForm.{normal_form}
use Rattle.model.specs.Reachable.{Reachable}
use Rattle.model.proofs.Starts.{lawful-dag, start-reachable}
use Rattle.model.proofs.Rules.{free-test, test-free, child-reachable}
use Rattle.loader.specs.declared.graph.TaskGraph.{TaskGraph}
use Rattle.loader.specs.Meaning.{the_graph}
use Rattle.loader.proofs.Laws.{the_lawful}
use Rattle.partial.specs.Meaning.{Appendable}

-- a task of the graph is free if it is ready
pub ready_free : (g : Graph) (s : Partial) (t : ℕ) (b : Bool) → b ≡ is_ready g s t → t < g.tasks → IsTrue b ↔ Free g s t
ready_free g s t b e h =
    let is : b ≡ is_free g s t = e ∙ sym (ap (λ (x : Bool). x && is_ready g s t) (lt-ltb t g.tasks h)) in
    ((λ q. test-free g s t (sym is ∙ q)), (λ F. is ∙ free-test g s t F))

-- what `is_open` answers
pub not_open : (g : Graph) (s : Partial) (t m : ℕ) (b : Bool) → b ≡ (is_free g s t && nat_lt m g.machines) → b ≡ false → Appendable g s t m → ⊥
not_open g s t m b e f A = clash b (e ∙ and_from _ _ (free-test g s t A.0) (lt-ltb m g.machines A.1)) f

pub opened : (g : Graph) (s : Partial) (t m : ℕ) (b : Bool) → b ≡ (is_free g s t && nat_lt m g.machines) → b ≡ true → Free g s t × (m < g.machines)
opened g s t m b e f = let p = and_parts _ _ (sym e ∙ f) in (test-free g s t p.0, ltb-true m g.machines p.1)

-- a child is reachable
pub child_reachable : (g : TaskGraph) (s c : Partial) (t m : ℕ) → Appendable (the_graph g) s t m → c ≡ normal_form (the_graph g) (append (the_graph g) s t m)
    → Reachable (the_graph g) s → Reachable (the_graph g) c
child_reachable g s c t m A e R = subst (Reachable (the_graph g)) (sym e) (child-reachable (the_graph g) (lawful-dag (the_lawful g)) s t m R A.0 A.1)

-- a free task of a reachable partial schedule can be appended on any machine of the graph
pub reachable_appendable : (g : TaskGraph) (s : Partial) (t m : ℕ) → Reachable (the_graph g) s → Free (the_graph g) s t → m < (the_graph g).machines → Appendable (the_graph g) s t m
reachable_appendable g s t m R F l = (F, l, omega (arith, start-reachable (the_graph g) (the_lawful g) R t m F))
