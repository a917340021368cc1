use Rattle.std.specs.Prelude.{◌≡◌, ℕ, List, take, Option, IfSome}
use Rattle.loader.specs.Parse.{parse}
use Rattle.loader.specs.Prefix.{longest_prefix}

-- the front of an input, where what it will give is known: as much of it as an answer can depend on. It is answered as
-- the whole input is, whatever follows.
abbrev pub IsFront : Option (List ℕ) → List ℕ → Type 0
IsFront left front =
    IfSome left (λ bytes. (front ≡ take longest_prefix bytes) × (parse front ≡ parse bytes))
