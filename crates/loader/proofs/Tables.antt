use Rattle.std.proofs.Common.{◌≡◌, ℕ, ◌+◌, ◌<◌, ◌≤◌, Bool, true, false, ◌&&◌, ◌||◌, List, [], length, get_or, set, Some, None, Option, refl, sym, ap, ◌∙◌, arith, add-one}
use Rattle.std.specs.Option.{MatchOption}
use Rattle.std.proofs.lemmas.List.Edits.{fill_by_more}
use Rattle.std.proofs.lemmas.List.FromFn.{length-map-range_with_len, get_or-map-range_with_len, fill_by_all}
use Rattle.model.specs.Range.{lowest}
use Rattle.model.proofs.Chains.{lowest-found}
use Rattle.model.specs.Graph.{Graph}
use Rattle.model.specs.Cycles.{reach}
use Rattle.loader.specs.Tables.{each_task, entry, table_of}

pub get_or-each_task : {A : Type 0} (f : ℕ → A) (d : A) (t : ℕ) → t < 32 → get_or (each_task f) t d ≡ f t
get_or-each_task f d t h = get_or-map-range_with_len f 0 32 t t d h (omega arith)

-- a table tells what it was made of
pub entry-table_of : (f : ℕ → ℕ → Bool) (a b : ℕ) → a < 32 → b < 32 → entry (table_of f) a b ≡ f a b
entry-table_of f a b h l = ap (λ (row : List Bool). get_or row b false) (get_or-each_task (λ a. each_task (f a)) [] a h) ∙ get_or-each_task (f a) false b l

each_task-same : {A : Type 0} (f h : ℕ → A) (d : A) → ((t : ℕ) → t < 32 → f t ≡ h t) → each_task f ≡ each_task h
each_task-same f h d e = fill_by_all h (each_task f) 32 d (length-map-range_with_len f 0 32) (λ k l. get_or-each_task f d k l ∙ e k l)

pub table_of-same : (f h : ℕ → ℕ → Bool) → ((a b : ℕ) → a < 32 → b < 32 → f a b ≡ h a b) → table_of f ≡ table_of h
table_of-same f h e = each_task-same (λ a. each_task (f a)) (λ a. each_task (h a)) [] (λ a l. each_task-same (f a) (h a) false (λ b m. e a b l m))

-- one round: chains through one task more
pub round : (g : Graph) (mid : ℕ) (old : List (List Bool)) → mid < 32 → old ≡ table_of (reach g mid)
    → table_of (λ a b. entry old a b || (entry old a mid && entry old mid b)) ≡ table_of (reach g (mid + 1))
round g mid old m was = table_of-same (λ a b. entry old a b || (entry old a mid && entry old mid b)) (reach g (mid + 1)) (λ a b h l.
    let e : (x y : ℕ) → x < 32 → y < 32 → entry old x y ≡ reach g mid x y = λ x y u v. ap (λ (t : List (List Bool)). entry t x y) was ∙ entry-table_of (reach g mid) x y u v in
    rw (e a b h l, e a mid h m, e mid b m l, add-one) refl)

-- one more row is filled
pub filled-more : {A : Type 0} (h : ℕ → A) (d : A) (xs : List A) (i : ℕ) (v : A) → i < length xs → v ≡ h i → ((k : ℕ) → k < i → get_or xs k d ≡ h k)
    → (k : ℕ) → k < i + 1 → get_or (set xs i v) k d ≡ h k
filled-more h d xs i v l e f = rw e (fill_by_more h xs i d l f)

-- the lowest place on the diagonal of a table
pub lowest-told : (n : ℕ) (table : List (List Bool)) (f : ℕ → ℕ → Bool) (r : Option ℕ) → n ≤ 32 → table ≡ table_of f
    → MatchOption r ((k : ℕ) → 0 ≤ k → k < n → entry table k k ≡ false) (λ i. (0 ≤ i) × (i < n) × (entry table i i ≡ true) × ((k : ℕ) → 0 ≤ k → k < i → entry table k k ≡ false))
    → r ≡ lowest n (λ t. f t t)
lowest-told n table f r m e h = go r h
  where
    at : (t : ℕ) → t < n → f t t ≡ entry table t t
    at t l = sym (ap (λ (x : List (List Bool)). entry x t t) e ∙ entry-table_of f t t (omega arith) (omega arith))

    go : (r : Option ℕ) → MatchOption r ((k : ℕ) → 0 ≤ k → k < n → entry table k k ≡ false) (λ i. (0 ≤ i) × (i < n) × (entry table i i ≡ true) × ((k : ℕ) → 0 ≤ k → k < i → entry table k k ≡ false))
        → r ≡ lowest n (λ t. f t t)
    go None h = lowest-found n (λ t. f t t) None (λ k a l. at k l ∙ h k a l)
    go (Some i) h = lowest-found n (λ t. f t t) (Some i) (h.0, h.1, at i h.1 ∙ h.2, λ k a l. at k (omega (arith, h.1)) ∙ h.3 k a l)
