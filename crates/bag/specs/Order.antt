use Rattle.std.specs.Prelude.{◌≡◌, Bool, true, false}

-- the test of a total order: any two compare, comparison is transitive, and what ties is equal
pub record Total {X : Type 0} (before : X → X → Bool) : Type 0 where
  pub asymmetric : (x y : X) → before x y ≡ true → before y x ≡ false
  pub transitive : (x y z : X) → before x y ≡ false → before y z ≡ false → before x z ≡ false
  pub tied : (x y : X) → before x y ≡ false → before y x ≡ false → x ≡ y
