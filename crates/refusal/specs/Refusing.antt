use Rattle.std.specs.Prelude.{Ok, Err, Result}
use Rattle.refusal.specs.declared.refusal.Refusal.{Refusal}

-- a call is refused exactly where R tells of a refusal, and its fault is told as that one
abbrev pub Refuses : {A E : Type 0} → (Refusal → Type 0) → (E → Refusal) → Result A E → Type 0
Refuses R told (Ok x) = (r : Refusal) → R r → ⊥
Refuses R told (Err e) = R (told e)
