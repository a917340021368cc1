use Rattle.std.proofs.Common.{◌≡◌, ℕ, zero, suc, ◌+◌, ◌<◌, List, [], ◌∷◌, ◌++◌, length, get_or, take, ap, ◌∙◌, sym, arith, append_assoc, add-one, append-nil}
use Rattle.std.specs.List.{flat_map, join_by}
use Rattle.std.proofs.lemmas.List.{take_more, flat_map_more}

-- a list joined, with one element more
pub joined_more : {X A : Type 0} (f : X → List A) (sep : List A) (xs : List X) (i : ℕ) (d : X) → 0 < i → i < length xs
    → join_by f sep (take (i + 1) xs) ≡ (join_by f sep (take i xs) ++ sep) ++ f (get_or xs i d)
joined_more f sep [] i d some lt = absurd (omega arith)
joined_more f sep (x ∷ xs) zero d some lt = absurd (omega arith)
joined_more {X} {A} f sep (x ∷ xs) (suc i) d some lt =
    let g : X → List A = λ y. sep ++ f y in
    let more : take (i + 1) xs ≡ take i xs ++ get_or xs i d ∷ [] = take_more xs i d (omega arith) in
    ap (λ n. join_by f sep (take n (x ∷ xs))) (add-one (suc i))
    ∙ ap (λ ys. f x ++ flat_map g ys) (ap (λ n. take n xs) (sym (add-one i)) ∙ more)
    ∙ sym (flat_map_more g (f x) (take i xs) (get_or xs i d))
    ∙ sym (append_assoc _ sep (f (get_or xs i d)))

-- its first element alone
pub joined_first : {X A : Type 0} (f : X → List A) (sep : List A) (xs : List X) (d : X) → 0 < length xs
    → join_by f sep (take 1 xs) ≡ f (get_or xs 0 d)
joined_first f sep [] d some = absurd (omega arith)
joined_first f sep (x ∷ xs) d some = append-nil (f x)
