use Rattle.std.proofs.Common.{◌≡◌, ℕ, zero, suc, get_or, is_some, replicate, None, Option, refl}
use Rattle.std.specs.Option.{unwrap_or}
use Rattle.model.specs.Partial.{nothing}
use Rattle.model.specs.NormalForm.{naming}
use Rattle.partial.specs.declared.placement.Placement.{Placement}
use Rattle.partial.specs.Names.{the_names}
use Rattle.partial.specs.Places.{placed_of, machine_of, start_of, partial_of}

-- a list filled with one value has it everywhere
filled : {A : Type 0} (n : ℕ) (x : A) (m : ℕ) → get_or (replicate n x) m x ≡ x
filled zero x m = refl
filled (suc n) x zero = refl
filled (suc n) x (suc m) = filled n x m

-- no placement at all is the empty partial schedule
pub empty_is : partial_of (replicate 32 None) ≡ nothing
empty_is = λ i. record {
  placed = λ t. placed_of (filled {A = Option Placement} 32 None t i);
  machine = λ t. machine_of (filled {A = Option Placement} 32 None t i);
  start = λ t. start_of (filled {A = Option Placement} 32 None t i);
}

-- no name at all is what no task has given
pub none_is : the_names (record { names = replicate 256 None; next = 0 }) ≡ naming nothing 0
none_is = λ i. record {
  seen = λ m. is_some (filled {A = Option ℕ} 256 None m i);
  name = λ m. unwrap_or (filled {A = Option ℕ} 256 None m i) 0;
  next = 0;
}
