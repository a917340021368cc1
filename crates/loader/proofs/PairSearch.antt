use Rattle.std.proofs.Common.{◌≡◌, ℕ, ◌<◌, true, false, ◌&&◌, eqb, List, length, get_or, take, sym, ap, ◌∙◌, arith, length-take-le, get_or-take}
use Rattle.std.proofs.lemmas.Bool.{and_from, and_parts, eq-eqb, eqb-true}
use Rattle.std.proofs.lemmas.Bool.{false_from_ne_true}
use Rattle.model.proofs.Range.{any-on, any-has}
use Rattle.loader.specs.declared.transfer.Transfer.{Transfer}
use Rattle.loader.specs.View.{blank, leads}

-- a transfer is found by its ends
pub leads-hit : (ts : List Transfer) (k a b : ℕ) → k < length ts → (get_or ts k blank).from ≡ a → (get_or ts k blank).to ≡ b → leads ts a b ≡ true
unfolding leads
leads-hit ts k a b h f t = any-on (length ts) k (λ j. eqb (get_or ts j blank).from a && eqb (get_or ts j blank).to b) h (and_from _ _ (eq-eqb _ _ f) (eq-eqb _ _ t))

pub leads-at : (ts : List Transfer) (a b : ℕ) → leads ts a b ≡ true → (j : ℕ) × (j < length ts) × ((get_or ts j blank).from ≡ a) × ((get_or ts j blank).to ≡ b)
unfolding leads
leads-at ts a b e =
    let x = any-has (length ts) (λ j. eqb (get_or ts j blank).from a && eqb (get_or ts j blank).to b) e in
    let p = and_parts _ _ x.2 in
    (x.0, x.1, eqb-true _ _ p.0, eqb-true _ _ p.1)

-- where no pair comes twice, none came before
pub pair-new : (ts : List Transfer) (k : ℕ) → k < length ts
    → ((i j : ℕ) → (i < j) × (j < length ts) × ((get_or ts i blank).from ≡ (get_or ts j blank).from) × ((get_or ts i blank).to ≡ (get_or ts j blank).to) → ⊥)
    → leads (take k ts) (get_or ts k blank).from (get_or ts k blank).to ≡ false
pair-new ts k h apart = false_from_ne_true _ (λ e.
    let p = leads-at (take k ts) (get_or ts k blank).from (get_or ts k blank).to e in
    let l = length-take-le k ts (omega arith) in
    let j : p.0 < k = omega (arith, p.1) in
    let g = get_or-take k ts p.0 blank j in
    apart p.0 k (j, h, ap (λ (x : Transfer). x.from) (sym g) ∙ p.2, ap (λ (x : Transfer). x.to) (sym g) ∙ p.3))
