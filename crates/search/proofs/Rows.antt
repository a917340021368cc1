use Rattle.std.proofs.Common.{◌≡◌, ℕ, ◌+◌, ◌<◌, List, [], ◌∷◌, ◌++◌, length, map, drop, set, sym, ap, ◌∙◌, arith}
use Rattle.std.specs.List.{range_with_len}
use Rattle.std.proofs.lemmas.List.{append_assoc, set-append_right, drop-set, drop-set-add}
use Rattle.std.proofs.lemmas.List.FromFn.{length-map-range_with_len, map-range_with_len_more}
use Rattle.model.specs.Partial.{Partial}
use Rattle.partial.specs.declared.placement.Placement.{Placement}
use Rattle.search.specs.Calls.{row_of, rows_below}

-- one row more is written
pub row-more : (s : Partial) (n : ℕ) (rows now : List Placement) (m v : ℕ) → n < length rows → now ≡ rows_below s n rows → m ≡ s.machine n → v ≡ s.start n
    → set now n (record { machine = m; start = v }) ≡ rows_below s (n + 1) rows
row-more s n rows now m v h e p q =
    let front : List Placement = map (row_of s) (range_with_len 0 n) in
    let k : length front ≡ n = length-map-range_with_len (row_of s) 0 n in
    let put : set (drop n rows) 0 (row_of s n) ≡ row_of s n ∷ drop (n + 1) rows =
    sym (drop-set-add n rows 0 (row_of s n)) ∙ ap (λ i. drop n (set rows i (row_of s n))) (omega arith) ∙ drop-set rows n (row_of s n) h in
    rw (e, p, q)
    (set-append_right front (drop n rows) n n (row_of s n) k (omega arith)
    ∙ ap (λ i. front ++ set (drop n rows) i (row_of s n)) (omega arith)
    ∙ ap (λ r. front ++ r) put
    ∙ sym (append_assoc front (row_of s n ∷ []) (drop (n + 1) rows))
    ∙ ap (λ r. r ++ drop (n + 1) rows) (sym (map-range_with_len_more (row_of s) 0 n n (omega arith))))
