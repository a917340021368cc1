use Rattle.std.specs.Prelude.{◌≡◌, Bool, false, if◌then◌else◌, List, [], ◌∷◌, Some, None, Option}
use Rattle.std.specs.List.{AllByRecursion}

-- A bag under a total order is told as the list of its entries in order.

-- the bag with e added
abbrev pub insert : {X : Type 0} → (X → X → Bool) → X → List X → List X
insert before e [] = e ∷ []
insert before e (x ∷ xs) = if before x e then x ∷ insert before e xs else e ∷ x ∷ xs

-- the bag of the entries of a list
abbrev pub sorted : {X : Type 0} → (X → X → Bool) → List X → List X
sorted before [] = []
sorted before (x ∷ xs) = insert before x (sorted before xs)

-- the entry that comes first
abbrev pub first : {X : Type 0} → List X → Option X
first [] = None
first (x ∷ xs) = Some x

-- the bag without the entry that comes first
abbrev pub rest : {X : Type 0} → List X → List X
rest [] = []
rest (x ∷ xs) = xs

-- in order: none comes before one that stands earlier
abbrev pub InOrder : {X : Type 0} → (X → X → Bool) → List X → Type 0
InOrder before [] = Unit {0}
InOrder before (x ∷ xs) = AllByRecursion (λ y. before y x ≡ false) xs × InOrder before xs
