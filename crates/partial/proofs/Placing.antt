use Rattle.std.proofs.Common.{◌≡◌, ℕ, ◌<◌, Bool, List, length, get_or, set, Some, None, Option, sym, ap, ◌∙◌, get_or-set_other, get_or-set_same}
use native.Mathlib.Decide.{ℕ_discrete}
use Rattle.model.specs.Range.{put}
use Rattle.model.specs.Graph.{Graph}
use Rattle.model.specs.Partial.{place, append, start_on}
use Rattle.model.proofs.Range.{put_same, put_other}
use Rattle.partial.specs.declared.placement.Placement.{Placement}
use Rattle.partial.specs.Places.{placed_of, machine_of, start_of, partial_of}

-- a placement written is a task placed
written : (q : List (Option Placement)) (t : ℕ) (x : Placement) → t < length q → partial_of (set q t (Some x)) ≡ place (partial_of q) t x.machine x.start
written q t x h = λ i. record { placed = λ u. at Bool placed_of u i; machine = λ u. at ℕ machine_of u i; start = λ u. at ℕ start_of u i }
  where
    at : (B : Type 0) (f : Option Placement → B) (u : ℕ) → f (get_or (set q t (Some x)) u None) ≡ put (λ u. f (get_or q u None)) t (f (Some x)) u
    at B f u = elim (ℕ_discrete u t) [
      | yes z ↦ ap (λ k. f (get_or (set q t (Some x)) k None)) z ∙ ap f (get_or-set_same q t (Some x) None h) ∙ sym (put_same (λ u. f (get_or q u None)) t (f (Some x)) u z)
      | no nz ↦ ap f (get_or-set_other q t u (Some x) None nz) ∙ sym (put_other (λ u. f (get_or q u None)) t (f (Some x)) u nz)
    ]

-- one that starts where the model puts it is a task appended
pub appended : (g : Graph) (q : List (Option Placement)) (t : ℕ) (x : Placement) → t < length q → x.start ≡ start_on g (partial_of q) t x.machine
    → partial_of (set q t (Some x)) ≡ append g (partial_of q) t x.machine
unfolding append
appended g q t x h e = written q t x h ∙ ap (place (partial_of q) t x.machine) e
