use Rattle.std.specs.Prelude.{Ok, Err, Result}

-- one test after another
abbrev pub and_then : {A B E : Type 0} → Result A E → (A → Result B E) → Result B E
and_then (Ok x) f = f x
and_then (Err e) f = Err e

-- a fault of the layer below
abbrev pub lifted : {A E F : Type 0} → (E → F) → Result A E → Result A F
lifted f (Ok x) = Ok x
lifted f (Err e) = Err (f e)

-- x where a test passed, and y where it refused
abbrev pub unless_refused : {A E X : Type 0} → Result A E → X → X → X
unless_refused (Ok a) x y = x
unless_refused (Err e) x y = y
