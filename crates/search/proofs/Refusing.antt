use Rattle.std.proofs.Common.{◌≡◌, ℕ, Bool, true, false, cond, ◌&&◌, ◌||◌, ltb, List, length, Some, None, Option, Ok, Err, Result, MatchResult, sym, refl, inl, inr, subst, arith}
use borrow.Author.Clash.{clash}
use Rattle.std.proofs.lemmas.Bool.{eq-eqb, eqb-true, ltb-true, ltb-false, and_from, and_parts}
use Rattle.model.specs.Graph.{Graph, Lawful}
use Rattle.model.specs.Schedule.{Feasible, makespan}
use Rattle.model.specs.Partial.{whole}
use Rattle.model.specs.Nodes.{SearchNode, node_at}
use Rattle.model.specs.Soundness.{is_complete}
use Rattle.model.proofs.Range.{every-from}
use Rattle.loader.specs.declared.graph.TaskGraph.{TaskGraph}
use Rattle.loader.specs.Meaning.{the_graph}
use Rattle.loader.proofs.Laws.{the_lawful}
use Rattle.refusal.specs.declared.refusal.Refusal.{Refusal}
use Rattle.refusal.specs.Refusing.{Refuses}
use Rattle.queue.specs.declared.entry.Entry.{Entry}
use Rattle.schedule.proofs.Judging.{judged-cases, obeys-all, judged-feasible}
use Rattle.astar.specs.declared.sizes.Sizes.{Sizes}
use Rattle.astar.specs.States.{SearchState, best_length}
use Rattle.astar.specs.Advance.{is_own}
use Rattle.astar.specs.Endings.{Foreign}
use Rattle.astar.specs.Laws.{floor}
use Rattle.astar.proofs.Visiting.{complete-all}
use Rattle.astar.proofs.Ending.{own-not, not-own}
use Rattle.search.specs.declared.fault.SearchFault.{SearchFault}
use Rattle.search.specs.declared.fault.SearchFault.TheVariants as faults
use Rattle.search.specs.declared.fault.PageFault.{PageFault}
use Rattle.search.specs.declared.fault.PageFault.TheVariants as page_faults
use Rattle.search.specs.Calls.{open_fault, floor_fault, settle_fault, best_fault, passes_with, is_best, has_best, answer_or}
use Rattle.search.specs.Runs.{Moment}
use Rattle.search.specs.Refusals.{search_refusal, page_refusal}
use Rattle.search.specs.Refused.{OpenRefused, FloorRefused, SettleRefused, HoldsBest, WriteRefused}
use Rattle.search.specs.Refused.OpenRefused.{table as wrong_table, list as wrong_list}
use Rattle.search.specs.Refused.FloorRefused.{foreign as floor_foreign}
use Rattle.search.specs.Refused.SettleRefused.{foreign as settle_foreign, unsettled}
use Rattle.search.specs.Refused.WriteRefused.{foreign as write_foreign, short}

-- Each call is refused as it says.

-- what a fault, or none, tells
abbrev pub Tells : {E : Type 0} → (Refusal → Type 0) → (E → Refusal) → Option E → Type 0
Tells R told None = (r : Refusal) → R r → ⊥
Tells R told (Some e) = R (told e)

pub refuses-by : {A E : Type 0} (R : Refusal → Type 0) (told : E → Refusal) (x : A) (o : Option E) (r : Result A E) → r ≡ answer_or x o → Tells R told o → Refuses R told r
refuses-by R told x o r e t = subst (Refuses R told) (sym e) (go o t)
  where
    go : (o : Option _) → Tells R told o → Refuses R told (answer_or x o)
    go None t = t
    go (Some f) t = t

-- of a call whose contract tells of each answer
pub refuses-or : {A E : Type 0} (R : Refusal → Type 0) (told : E → Refusal) (P : A → Type 0) (Q : E → Type 0) {o : Option E}
    → ((x : A) → P x → o ≡ None) → ((e : E) → Q e → o ≡ Some e) → (r : Result A E) → MatchResult r P Q → Tells R told o → Refuses R told r
refuses-or R told P Q f h (Ok x) m t = subst (Tells R told) (f x m) t
refuses-or R told P Q f h (Err e) m t = subst (Tells R told) (h e m) t

module _ (ns : List SearchNode) (bag : List Entry) (limit : ℕ) where
  pub open-tells : Tells (OpenRefused ns bag limit) search_refusal (open_fault ns bag limit)
  open-tells = go (ltb (length ns) 2) refl (ltb 1048576 (length ns)) refl (ltb 0 (length bag)) refl (ltb limit (length ns)) refl
    where
      go : (a : Bool) → ltb (length ns) 2 ≡ a → (b : Bool) → ltb 1048576 (length ns) ≡ b → (c : Bool) → ltb 0 (length bag) ≡ c → (d : Bool) → ltb limit (length ns) ≡ d
          → Tells (OpenRefused ns bag limit) search_refusal (cond (a || b) (Some faults.Table) (cond (c || d) (Some faults.List) None))
      go true p b q c r d s = wrong_table (inl (ltb-true _ _ p))
      go false p true q c r d s = wrong_table (inr (ltb-true _ _ q))
      go false p false q true r d s = wrong_list (ltb-false _ _ p) (ltb-false _ _ q) (inl (ltb-true _ _ r))
      go false p false q false r true s = wrong_list (ltb-false _ _ p) (ltb-false _ _ q) (inr (ltb-true _ _ s))
      go false p false q false r false s = none
        where
          none : (r : Refusal) → OpenRefused ns bag limit r → ⊥
          none x (wrong_table (inl h)) = absurd (omega (arith, h, ltb-false _ _ p))
          none x (wrong_table (inr h)) = absurd (omega (arith, h, ltb-false _ _ q))
          none x (wrong_list l m (inl h)) = absurd (omega (arith, h, ltb-false _ _ r))
          none x (wrong_list l m (inr h)) = absurd (omega (arith, h, ltb-false _ _ s))

module _ (g : Graph) (L : Lawful g) (z : Sizes) (limit : ℕ) (w : SearchState) where
  own : is_own g z w limit ≡ true → Foreign g z limit w → ⊥
  own = own-not g L z limit 0 w

  alien : is_own g z w limit ≡ false → Foreign g z limit w
  alien = not-own g L z limit 0 w

  pub floor-tells : Tells (FloorRefused g z limit w) search_refusal (floor_fault g z w limit)
  floor-tells = go (is_own g z w limit) refl
    where
      go : (a : Bool) → is_own g z w limit ≡ a → Tells (FloorRefused g z limit w) search_refusal (cond a None (Some faults.Foreign))
      go false q = floor_foreign (alien q)
      go true q = none
        where
          none : (r : Refusal) → FloorRefused g z limit w r → ⊥
          none x (floor_foreign f) = own q f

  pub settle-tells : Tells (SettleRefused g z limit w) search_refusal (settle_fault g z w limit)
  settle-tells = go (is_own g z w limit) refl (ltb (floor w) (best_length w)) refl
    where
      go : (a : Bool) → is_own g z w limit ≡ a → (b : Bool) → ltb (floor w) (best_length w) ≡ b
          → Tells (SettleRefused g z limit w) search_refusal (cond a (cond b (Some faults.Unsettled) None) (Some faults.Foreign))
      go false q b s = settle_foreign (alien q)
      go true q true s = unsettled (own q) (ltb-true _ _ s)
      go true q false s = none
        where
          none : (r : Refusal) → SettleRefused g z limit w r → ⊥
          none x (settle_foreign f) = own q f
          none x (unsettled n l) = absurd (omega (arith, l, ltb-false _ _ s))

  -- the test for a schedule with its makespan decides it
  holds : (x : SearchNode) → is_best g x ≡ true → HoldsBest g x
  holds x e =
      let a = and_parts (is_complete g x.partial) _ e in
      let f = judged-cases g (whole x.partial) (λ r. passes_with r x.bound ≡ true → Feasible g (whole x.partial) × (makespan g (whole x.partial) ≡ x.bound))
      (λ t h q. clash false q refl) (λ t h i q. clash false q refl) (λ t h i j q. clash false q refl)
      (λ h i j q. (obeys-all g (whole x.partial) L.numbers.ends h i j, eqb-true _ _ q)) a.1 in
      (complete-all g x.partial a.0, f.0, f.1)

  hold : (x : SearchNode) → HoldsBest g x → is_best g x ≡ true
  unfolding is_complete
  hold x h = and_from _ _ (every-from g.tasks _ h.0) (rw (judged-feasible g (whole x.partial) h.1) (eq-eqb _ _ h.2))

  pub write-tells : (needed room : ℕ)
      → Tells (WriteRefused g z limit w needed room) page_refusal (cond (has_best g z w limit) (cond (ltb room needed) (Some page_faults.Short) None) (Some (page_faults.Search faults.Foreign)))
  write-tells needed room = go (is_own g z w limit) refl (is_best g x) refl (ltb room needed) refl
    where
      x : SearchNode
      x = node_at w.nodes 0

      go : (a : Bool) → is_own g z w limit ≡ a → (b : Bool) → is_best g x ≡ b → (c : Bool) → ltb room needed ≡ c
          → Tells (WriteRefused g z limit w needed room) page_refusal (cond (a && b) (cond c (Some page_faults.Short) None) (Some (page_faults.Search faults.Foreign)))
      go false p b q c s = write_foreign (inl (alien p))
      go true p false q c s = write_foreign (inr (λ h. clash (is_best g x) (hold x h) q))
      go true p true q true s = short (own p) (holds x q) (ltb-true _ _ s)
      go true p true q false s = none
        where
          none : (r : Refusal) → WriteRefused g z limit w needed room r → ⊥
          none y (write_foreign (inl f)) = own p f
          none y (write_foreign (inr n)) = n (holds x q)
          none y (short n h l) = absurd (omega (arith, l, ltb-false _ _ s))

-- as the calls say it
module _ (g : TaskGraph) (m : Moment) where
  pub floor-refuses : {A : Type 0} (x : A) (r : Result A SearchFault) → r ≡ answer_or x (floor_fault (the_graph g) m.sizes m.state m.limit)
      → Refuses (FloorRefused (the_graph g) m.sizes m.limit m.state) search_refusal r
  floor-refuses x r e = refuses-by _ search_refusal x (floor_fault (the_graph g) m.sizes m.state m.limit) r e (floor-tells (the_graph g) (the_lawful g) m.sizes m.limit m.state)

  pub best-refuses : {A : Type 0} (room : ℕ) (x : A) (r : Result A PageFault) → r ≡ answer_or x (best_fault (the_graph g) m.sizes m.state m.limit room)
      → Refuses (WriteRefused (the_graph g) m.sizes m.limit m.state (the_graph g).tasks room) page_refusal r
  best-refuses room x r e = refuses-by _ page_refusal x (best_fault (the_graph g) m.sizes m.state m.limit room) r e (write-tells (the_graph g) (the_lawful g) m.sizes m.limit m.state (the_graph g).tasks room)

  pub settle-accepted : settle_fault (the_graph g) m.sizes m.state m.limit ≡ None → (r : Refusal) → SettleRefused (the_graph g) m.sizes m.limit m.state r → ⊥
  settle-accepted e = subst (Tells (SettleRefused (the_graph g) m.sizes m.limit m.state) search_refusal) e (settle-tells (the_graph g) (the_lawful g) m.sizes m.limit m.state)

  pub settle-refused : (f : SearchFault) → settle_fault (the_graph g) m.sizes m.state m.limit ≡ Some f → SettleRefused (the_graph g) m.sizes m.limit m.state (search_refusal f)
  settle-refused f e = subst (Tells (SettleRefused (the_graph g) m.sizes m.limit m.state) search_refusal) e (settle-tells (the_graph g) (the_lawful g) m.sizes m.limit m.state)

  -- where best is accepted, node 0 holds a schedule with its makespan
  pub holds-best : (room : ℕ) → best_fault (the_graph g) m.sizes m.state m.limit room ≡ None → HoldsBest (the_graph g) (node_at m.state.nodes 0)
  holds-best room e = go (is_own (the_graph g) m.sizes m.state m.limit) (is_best (the_graph g) (node_at m.state.nodes 0)) refl (ltb room (the_graph g).tasks) e
    where
      go : (a b : Bool) → is_best (the_graph g) (node_at m.state.nodes 0) ≡ b → (c : Bool)
          → cond (a && b) (cond c (Some page_faults.Short) None) (Some (page_faults.Search faults.Foreign)) ≡ None → HoldsBest (the_graph g) (node_at m.state.nodes 0)
      go true true q c e = holds (the_graph g) (the_lawful g) m.sizes m.limit m.state (node_at m.state.nodes 0) q
      go true false q c e = cc
      go false b q c e = cc
