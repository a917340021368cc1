use Rattle.std.proofs.Common.{◌≡◌, ℕ, zero, suc, ◌+◌, ◌<◌, ◌≤◌, true, if◌then◌else◌, List, length, get_or, Some, None, Option, refl, sym, ap, ◌∙◌, subst, add-one, arith}
use native.Mathlib.Decide.{ℕ_discrete, dec_lt}
use Rattle.std.specs.Array.{MapsFrom, IsMapOf}
use Rattle.std.specs.Fn.{Mut, Called}
use Rattle.std.specs.Option.{option_map}
use Rattle.std.proofs.lemmas.List.{get_or_past}
use Rattle.model.specs.Graph.{Graph}
use Rattle.model.specs.NormalForm as M
use Rattle.model.specs.NormalForm.{note, naming, normal_form}
use Rattle.partial.specs.declared.placement.Placement.{Placement}
use Rattle.partial.specs.Names.{renamed}
use Rattle.partial.specs.Places.{placed_of, machine_of, start_of, partial_of}

-- one task more: it is placed, or it is not
pub named_more : (q : List (Option Placement)) (t : ℕ) (x : Placement) → get_or q t None ≡ Some x → naming (partial_of q) (t + 1) ≡ note x.machine true (naming (partial_of q) t)
named_more q t x e = rw (add-one t, e)

pub named_alike : (q : List (Option Placement)) (t : ℕ) → get_or q t None ≡ None → naming (partial_of q) (t + 1) ≡ naming (partial_of q) t
named_alike q t e = rw (add-one t, e)

-- an array mapped by a function that a closure computes
module _ {F A B : Type 0} (g : Mut F (A × Unit {0}) B) (f : F) (h : A → B) (calls : (x : A) (y : B) (q : F) → Called g f (x, tt) y q → (q ≡ f) × (y ≡ h x)) where
  each : (p : F) → p ≡ f → (xs : List A) (ys : List B) (i n : ℕ) → MapsFrom g p xs ys i n → (k : ℕ) → i ≤ k → k < i + n → (d : A) (e : B) → get_or ys k e ≡ h (get_or xs k d)
  each p z xs ys i zero m k low high d e = absurd (omega arith)
  each p z xs ys i (suc n) m k low high d e =
      let w = calls m.1 m.2 m.0 (subst (λ (r : F). Called g r (m.1, tt) m.2 m.0) z m.5) in
      elim (ℕ_discrete k i) [
        | yes q ↦ rw q (m.4.1 e ∙ w.1 ∙ sym (ap h (m.3.1 d)))
        | no ne ↦ each m.0 w.0 xs ys (i + 1) n m.6 k (omega arith) (omega arith) d e
      ]

  pub mapped : (xs : List A) (ys : List B) (n : ℕ) → length xs ≡ n → IsMapOf g f xs ys n → (k : ℕ) (d : A) (e : B) → e ≡ h d → get_or ys k e ≡ h (get_or xs k d)
  mapped xs ys n l m k d e z = elim (dec_lt k n) [
    | yes w ↦ each f refl xs ys 0 n m.each k (omega arith) (omega arith) d e
    | no w ↦ get_or_past ys k e (omega (arith, m.long)) ∙ z ∙ sym (ap h (get_or_past xs k d (omega arith)))
  ]

renamed-placed : (n : M.Names) (x : Option Placement) → placed_of (option_map (renamed n) x) ≡ placed_of x
renamed-placed n None = refl
renamed-placed n (Some x) = refl

renamed-machine : (n : M.Names) (x : Option Placement) → machine_of (option_map (renamed n) x) ≡ (if placed_of x then n.name (machine_of x) else 0)
renamed-machine n None = refl
renamed-machine n (Some x) = refl

renamed_start : (n : M.Names) (x : Option Placement) → start_of (option_map (renamed n) x) ≡ start_of x
renamed_start n None = refl
renamed_start n (Some x) = refl

-- placements renamed one by one are the normal form
pub renamed-is : (g : Graph) (q out : List (Option Placement)) (n : M.Names) → n ≡ naming (partial_of q) g.tasks
    → ((k : ℕ) → get_or out k None ≡ option_map (renamed n) (get_or q k None)) → partial_of out ≡ normal_form g (partial_of q)
unfolding normal_form
renamed-is g q out n e h = λ i. record {
  placed = λ t. (ap placed_of (h t) ∙ renamed-placed n (get_or q t None)) i;
  machine = λ t. (ap machine_of (h t) ∙ renamed-machine n (get_or q t None) ∙ ap (λ (m : M.Names). if placed_of (get_or q t None) then m.name (machine_of (get_or q t None)) else 0) e) i;
  start = λ t. (ap start_of (h t) ∙ renamed_start n (get_or q t None)) i;
}
