use Rattle.std.proofs.Common.{◌≡◌, ℕ, zero, suc, ◌≤◌, false, ltb, List, [], ◌∷◌, ◌++◌, length, map, take, drop, replicate, None, Option, Ok, Result, sym, refl, ap, ◌∙◌, subst, arith}
use Rattle.std.proofs.lemmas.Bool.{le-ltb}
use Rattle.model.specs.Nodes.{SearchNode, no_node}
use Rattle.queue.specs.declared.entry.Entry.{Entry}
use Rattle.nodes.specs.declared.node.Node.{Node}
use Rattle.nodes.specs.View.{the_node}
use Rattle.model.specs.Graph.{Graph}
use Rattle.model.specs.Bounds.{joined_bound}
use Rattle.refusal.specs.declared.refusal.Refusal.{Refusal}
use Rattle.search.specs.Calls.{open_fault}
use Rattle.search.specs.Runs.{Moment}
use Rattle.solve.specs.Solving.{ended, would_settle}
use Rattle.page.specs.Texts.{report_text}
use Rattle.page.specs.Pages.{Truthful}
use Rattle.planner.specs.declared.options.Options.{Options}
use Rattle.planner.specs.declared.limit.Limit.{Limit}
use Rattle.planner.specs.Limits.{limit_at, EndedBy}
use Rattle.planner.proofs.Pages.{one-value}
use Rattle.planner.specs.Planning.{page_at, Written, TextOf, search_end}

-- Blank nodes and slots, and the front of a buffer.

all-blank : (n : ℕ) (x : Node) → the_node x ≡ no_node → map the_node (replicate n x) ≡ replicate n no_node
all-blank zero x e = refl
all-blank (suc n) x e = let r = all-blank n x e in rw (e, r)

pub blank-nodes : (n : ℕ) (x : Node) (items : List Node) (ns : List SearchNode) → the_node x ≡ no_node → items ≡ replicate n x → ns ≡ map the_node items → ns ≡ replicate n no_node
blank-nodes n x items ns e i m = m ∙ ap (map the_node) i ∙ all-blank n x e

many : {X : Type 0} (n : ℕ) (x : X) → length (replicate n x) ≡ n
many zero x = refl
many (suc n) x = ap suc (many n x)

-- open accepts as many blank nodes as there are slots for entries
pub opens : (n limit : ℕ) (ns : List SearchNode) (bag : List Entry) → ns ≡ replicate n no_node → bag ≡ [] → limit ≡ n → 2 ≤ n → n ≤ 1048576 → open_fault ns bag limit ≡ None
opens n limit ns bag e b l two few =
    let k : length ns ≡ n = ap length e ∙ many n no_node in
    let a : ltb (length ns) 2 ≡ false = le-ltb (length ns) 2 (omega (arith, k)) in
    let c : ltb 1048576 (length ns) ≡ false = le-ltb 1048576 (length ns) (omega (arith, k)) in
    let d : ltb limit (length ns) ≡ false = le-ltb limit (length ns) (omega (arith, k)) in
    rw (b, a, c, d)

pub front : {X : Type 0} (xs ys : List X) → take (length xs) (xs ++ ys) ≡ xs
front [] ys = refl
front (x ∷ xs) ys = ap (λ zs. x ∷ zs) (front xs ys)

-- what a vector holds after its whole slice was lent
pub given-back : {X : Type 0} (n : ℕ) (xs ys : List X) → length xs ≡ n → take n (xs ++ drop (length xs) ys) ≡ xs
given-back n xs ys e = ap (λ k. take k (xs ++ drop (length xs) ys)) (sym e) ∙ front xs (drop (length xs) ys)

-- the page that was written is the text that is told, and what ended the search is told
pub told : (g : Graph) (o : Options) (ns : List SearchNode) (limit : ℕ) (r : Result (ℕ × Option Limit) Refusal) (n : ℕ) (by : Option Limit) (old page text : List ℕ)
    → ns ≡ replicate o.nodes no_node → limit ≡ o.nodes → r ≡ Ok (n, by)
    → Written g o.budget (ended g joined_bound ns limit o.budget 1) r old page
    → EndedBy g o.budget (ended g joined_bound ns limit o.budget 1) (limit_at g o.budget (ended g joined_bound ns limit o.budget 1))
    → text ≡ take n page → TextOf g o text by
told g o ns limit r n by old page text e l ok w ends cut =
    let m : Moment = ended g joined_bound ns limit o.budget 1 in
    let t : List ℕ = report_text (page_at g m) in
    let q = one-value (n, by) (length t, limit_at g o.budget m) r ok w.0 in
    let k : n ≡ length t = ap (λ (z : ℕ × Option Limit). z.0) q in
    let b : by ≡ limit_at g o.budget m = ap (λ (z : ℕ × Option Limit). z.1) q in
    let is : text ≡ t = cut ∙ ap (λ i. take i page) k ∙ ap (take (length t)) w.1 ∙ front t (drop (length t) old) in
    subst (λ (z : Moment). (text ≡ report_text (page_at g z)) × Truthful (would_settle g z) (page_at g z) × (by ≡ limit_at g o.budget z) × EndedBy g o.budget z by) same
    (is, w.2, b, subst (EndedBy g o.budget m) (sym b) ends)
  where
    same : ended g joined_bound ns limit o.budget 1 ≡ search_end g o
    same = rw (e, l)
