use Rattle.std.proofs.Common.{◌≡◌, ℕ, ◌+◌, ◌/◌, ◌%◌, ◌<◌, ◌≤◌, ◌^◌, List, [], ◌∷◌, ◌++◌, length, decimal, ap, ◌∙◌, sym, append_assoc, arith}
use Rattle.std.proofs.lemmas.Fmt.{decimal_step, decimal_digit, length-decimal-le}
use Rattle.std.proofs.lemmas.Grind.{common_steps}
use Rattle.std.proofs.lemmas.List.{length_push}

-- a number has one digit more than its tenth
pub length-decimal_step : (n : ℕ) → 10 ≤ n → n < 2 ^ 64 → length (decimal n) ≡ length (decimal (n / 10)) + 1
length-decimal_step n h small = ap length (decimal_step n h small) ∙ length_push _ _

-- a number below ten has one
pub length-decimal_digit : (n : ℕ) → n < 10 → length (decimal n) ≡ 1
length-decimal_digit n h = ap length (decimal_digit n h)

-- behind the digits of its tenth, the last digit makes the number
pub last-digit : (s t : List ℕ) (n : ℕ) → 10 ≤ n → n < 2 ^ 64 → t ≡ s ++ decimal (n / 10) → t ++ (48 + n % 10) ∷ [] ≡ s ++ decimal n
last-digit s t n h small e = ap (λ x. x ++ (48 + n % 10) ∷ []) e ∙ append_assoc s (decimal (n / 10)) _ ∙ ap (λ x. s ++ x) (sym (decimal_step n h small))

-- a number of 64 bits has at most twenty
pub length-decimal_u64 : (n : ℕ) → n < 2 ^ 64 → length (decimal n) ≤ 20
length-decimal_u64 n small = length-decimal-le 20 n (omega arith) (omega arith) small

pub ruleset digits = (common_steps, length-decimal_u64)
