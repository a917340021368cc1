use Rattle.std.proofs.Common.{◌≡◌, ℕ, ◌+◌, List, [], ◌∷◌, ◌++◌, length, get_or, codes, sym, ap, ◌∙◌, arith}
use Rattle.std.specs.List.{join_by}
use Rattle.std.proofs.lemmas.List.{append_assoc, length-append, get_or-append-add}
use Rattle.page.specs.Words.{word_text, closing_word}
use Rattle.page.specs.Lines.{field_text, line_text}
use Rattle.page.specs.Texts.{Page, head_fields, length_fields, tally_fields, task_lines, report_text}
use Rattle.page.specs.Pages.{LastWord}

-- The last line of a page is its closing word, and no other.

-- a line end within is where the last line begins
regroup : (a b c j x : List ℕ) → a ++ (b ++ (c ++ ((j ++ 10 ∷ []) ++ x))) ≡ (a ++ (b ++ (c ++ j))) ++ 10 ∷ x
regroup a b c j x =
    ap (λ z. a ++ (b ++ (c ++ z))) (append_assoc j (10 ∷ []) x)
    ∙ ap (λ z. a ++ (b ++ z)) (sym (append_assoc c j (10 ∷ x)))
    ∙ ap (λ z. a ++ z) (sym (append_assoc b (c ++ j) (10 ∷ x)))
    ∙ sym (append_assoc a (b ++ (c ++ j)) (10 ∷ x))

pub closed-by : (p : Page) → LastWord (report_text p) (word_text (closing_word p.closing))
unfolding report_text
closed-by p = (
  line_text (head_fields p) ++ (task_lines p p.graph.tasks ++ (line_text (length_fields p) ++ join_by field_text (codes " ") (tally_fields p.tally))),
  regroup (line_text (head_fields p)) (task_lines p p.graph.tasks) (line_text (length_fields p)) (join_by field_text (codes " ") (tally_fields p.tally)) (word_text (closing_word p.closing) ++ 10 ∷ []),
)

-- the byte before the last tells the two words apart
pub not-both : (text : List ℕ) → LastWord text (codes "open") → LastWord text (codes "shortest") → ⊥
not-both text x y =
    let ends : List ℕ = 10 ∷ (codes "open" ++ 10 ∷ []) in
    let proved : List ℕ = 10 ∷ (codes "shortest" ++ 10 ∷ []) in
    let size : length x.0 + 6 ≡ length y.0 + 10 = sym (length-append x.0 ends) ∙ ap (λ (t : List ℕ). length t) (sym x.1 ∙ y.1) ∙ length-append y.0 proved in
    let at : length x.0 + 4 ≡ length y.0 + 8 = omega (arith, size) in
    let one : get_or text (length x.0 + 4) 0 ≡ 110 = ap (λ t. get_or t (length x.0 + 4) 0) x.1 ∙ get_or-append-add x.0 ends 4 0 in
    let two : get_or text (length y.0 + 8) 0 ≡ 116 = ap (λ t. get_or t (length y.0 + 8) 0) y.1 ∙ get_or-append-add y.0 proved 8 0 in
    absurd (omega (arith, one, two, ap (λ i. get_or text i 0) at))
