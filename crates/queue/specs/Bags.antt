use Rattle.std.specs.Prelude.{◌≡◌, List, [], ◌∷◌, Some, None, Option}
use Rattle.std.specs.List.Sorted.{IsPermutation}
use Rattle.std.specs.List.{ContainsAt as Has, AllByRecursion}

-- What the calls on a bag mean, whatever order tells it.
-- `Leads x y` says that y may not be taken before x.

-- what a look shows: nothing exactly when the bag is empty, else one of its entries that leads all
abbrev pub Shows : {X : Type 0} → (X → X → Type 0) → List X → Option X → Type 0
Shows Leads b None = b ≡ []
Shows Leads b (Some x) = Has b x × AllByRecursion (Leads x) b

-- what a take leaves: the entry that leads them all is gone, once, and the others stay;
-- from an empty bag nothing is taken
abbrev pub Takes : {X : Type 0} → (X → X → Type 0) → List X → Option X → List X → Type 0
Takes Leads b None c = (b ≡ []) × (c ≡ [])
Takes Leads b (Some x) c = IsPermutation b (x ∷ c) × AllByRecursion (Leads x) b
