use Rattle.std.proofs.Common.{◌≡◌, ℕ, Bool, true, false, cond, Ok, Err, Result, refl, ap, ◌∙◌, arith}
use Rattle.loader.specs.Chaining.{and_then}

pub ok-err : {A E : Type 0} (x : A) (e : E) → ◌≡◌ {A = Result A E} (Ok x) (Err e) → ⊥
ok-err {A = A} {E = E} x e h = let z : ◌≡◌ {A = ℕ} 0 1 = cc in omega arith

-- where a chain of tests passes, each test passed
pub and_then-ok : {A B E : Type 0} (r : Result A E) (f : A → Result B E) (y : B) → and_then r f ≡ Ok y → (x : A) × (r ≡ Ok x) × (f x ≡ Ok y)
and_then-ok (Ok x) f y e = (x, refl, e)
and_then-ok {B = B} {E = E} (Err d) f y h = absurd (let z : ◌≡◌ {A = ℕ} 0 1 = cc in omega arith)

pub and_then-at : {A B E : Type 0} (r : Result A E) (f : A → Result B E) (x : A) (y : Result B E) → r ≡ Ok x → f x ≡ y → and_then r f ≡ y
and_then-at r f x y e d = ap (λ q. and_then q f) e ∙ d

-- a test that refuses
pub refuse-ok : {A E : Type 0} (b : Bool) (e : E) (x y : A) → ◌≡◌ {A = Result A E} (cond b (Err e) (Ok x)) (Ok y) → (b ≡ false) × (x ≡ y)
refuse-ok {A = A} {E = E} true e x y h = absurd (let z : ◌≡◌ {A = ℕ} 0 1 = cc in omega arith)
refuse-ok {A = A} {E = E} false e x y h = (refl, cc)
