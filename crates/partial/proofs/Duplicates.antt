use Rattle.std.proofs.Common.{◌≡◌, ℕ, zero, suc, Bool, ◌&&◌, IsTrue, ◌↔◌, List, [], ◌∷◌, length, get_or, Some, None, Option, ◌==◌, refl, sym, ap, ◌∙◌, arith}
use Rattle.std.specs.Bool.{Decides}
use Rattle.std.specs.Option.{option_eq}
use Rattle.std.specs.Cmp.Lexicographic.{pointwise}
use Rattle.std.proofs.lemmas.Bool.{eq-eqb, eqb-true, and_from, and_parts}
use Rattle.std.proofs.lemmas.Slice.Eq.{slice_eq-Decides}
use Rattle.model.specs.Range.{every}
use Rattle.model.specs.Nodes.{agree_on, is_duplicate}
use Rattle.model.proofs.Range.{every-same}
use Rattle.model.proofs.Chains.{every-front}
use Rattle.partial.specs.declared.placement.Placement.{Placement}
use Rattle.partial.specs.Places.{partial_of}

-- two lists of one length compared element by element
pub pointwise-every : {A : Type 0} (E : A → A → Bool) (d : A) (n : ℕ) (xs ys : List A) → length xs ≡ n → length ys ≡ n
    → pointwise E xs ys ≡ every n (λ k. E (get_or xs k d) (get_or ys k d))
pointwise-every E d zero [] [] l m = refl
pointwise-every E d zero (x ∷ xs) ys l m = absurd (omega arith)
pointwise-every E d zero [] (y ∷ ys) l m = absurd (omega arith)
pointwise-every E d (suc n) [] ys l m = absurd (omega arith)
pointwise-every E d (suc n) (x ∷ xs) [] l m = absurd (omega arith)
pointwise-every E d (suc n) (x ∷ xs) (y ∷ ys) l m =
    ap (λ (b : Bool). E x y && b) (pointwise-every E d n xs ys (omega arith) (omega arith)) ∙ sym (every-front n (λ k. E (get_or (x ∷ xs) k d) (get_or (y ∷ ys) k d)))

-- what `==` says of two placements
abbrev pub same_place : Placement → Placement → Bool
same_place x y = x.machine == y.machine && x.start == y.start

-- what it says of two tasks is whether the partial schedules agree there
agree-at : (p q : List (Option Placement)) (t : ℕ) (x y : Option Placement) → get_or p t None ≡ x → get_or q t None ≡ y → option_eq same_place x y ≡ agree_on (partial_of p) (partial_of q) t
agree-at p q t None None e f = rw (e, f) refl
agree-at p q t None (Some y) e f = rw (e, f) refl
agree-at p q t (Some x) None e f = rw (e, f) refl
agree-at p q t (Some x) (Some y) e f = rw (e, f) refl

-- 32 places compared one by one are a test for duplicates
pub duplicate-test : (p q : List (Option Placement)) → length p ≡ 32 → length q ≡ 32 → pointwise (option_eq same_place) p q ≡ is_duplicate (partial_of p) (partial_of q)
unfolding is_duplicate
duplicate-test p q l m =
    pointwise-every (option_eq same_place) None 32 p q l m
    ∙ every-same 32 (λ t. option_eq same_place (get_or p t None) (get_or q t None)) (agree_on (partial_of p) (partial_of q)) (λ t h. agree-at p q t _ _ refl refl)

-- what `==` says of two places is whether they are equal
same-place : (x y : Placement) → Decides (same_place x y) (x ≡ y)
same-place x y = (
  (λ e. let p = and_parts (x.machine == y.machine) (x.start == y.start) e in λ i. record { machine = eqb-true x.machine y.machine p.0 i; start = eqb-true x.start y.start p.1 i }),
  (λ e. and_from (x.machine == y.machine) (x.start == y.start) (eq-eqb _ _ (ap (λ (p : Placement). p.machine) e)) (eq-eqb _ _ (ap (λ (p : Placement). p.start) e))),
)

same-option : (x y : Option Placement) → Decides (option_eq same_place x y) (x ≡ y)
same-option None None = (λ e. refl, λ e. refl)
same-option None (Some y) = (λ e. cc, λ e. cc)
same-option (Some x) None = (λ e. cc, λ e. cc)
same-option (Some x) (Some y) = ((λ e. ap Some ((same-place x y).0 e)), λ e. (same-place x y).1 (cc))

pub duplicate-same : (p q : List (Option Placement)) (r : Bool) → r ≡ pointwise (option_eq same_place) p q → IsTrue r ↔ (p ≡ q)
duplicate-same = slice_eq-Decides same-option
