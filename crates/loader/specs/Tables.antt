use Rattle.std.specs.Prelude.{ℕ, Bool, false, List, [], map, slice_index_or}
use Rattle.std.specs.List.{range_with_len}

-- a list of what f tells of each of the 32 tasks that there may be
abbrev pub each_task : {A : Type 0} → (ℕ → A) → List A
each_task f = map f (range_with_len 0 32)

-- the table of what f tells of each pair of them
abbrev pub table_of : (ℕ → ℕ → Bool) → List (List Bool)
table_of f = each_task (λ a. each_task (f a))

-- what a table tells of a and b
abbrev pub entry : List (List Bool) → ℕ → ℕ → Bool
entry table a b = slice_index_or (slice_index_or table a []) b false
