use Rattle.std.proofs.Common.{◌≡◌, ℕ, ◌<◌, ◌^◌, Bool, true, List, [], ◌∷◌, length, sym, refl, ap, subst, arith}
use Rattle.std.specs.Prelude.{codes, nat_lt, ◌&&◌, slice_index}
use Rattle.std.specs.Fmt.{digits}
use Rattle.std.specs.Char.{digit_value}
use Rattle.std.specs.Str.Parse.{AllDigits, digits_value, without_leading_plus}
use Rattle.std.proofs.lemmas.Bool.{and_parts, ltb-true}
use Rattle.planner.specs.declared.setting.Setting.{Setting}
use Rattle.planner.specs.declared.setting.Setting.TheVariants.{Nodes, Budget}
use Rattle.planner.specs.Options.{name_of, Allows, Takes}
use Rattle.planner.specs.Requests.{Sets}
use Rattle.planner.specs.Requests.Sets.{none, more}
use Rattle.cases.specs.Calls.{Calls, Ranges, Usages, Faults, Limits, Explained, Streams, Wants}

abbrev all_are_digits : List ℕ → Bool
all_are_digits [] = true
all_are_digits (d ∷ ds) = nat_lt (digit_value d) 10 && all_are_digits ds

all-digits : (ds : List ℕ) → all_are_digits ds ≡ true → AllDigits 10 ds
all-digits [] e = tt
all-digits (d ∷ ds) e = let p = and_parts (nat_lt (digit_value d) 10) (all_are_digits ds) e in (ltb-true (digit_value d) 10 p.0, all-digits ds p.1)

-- an option takes a text of digits, by its value
taken : (s : Setting) (text : List ℕ) (n : ℕ) → all_are_digits (without_leading_plus text) ≡ true → 0 < length (without_leading_plus text)
    → digits_value 10 (without_leading_plus text) ≡ n → n < 2 ^ 64 → Allows s n → Takes s text n
taken s text n d l v f a = (((l, all-digits _ d), v, f), a)

pub ranges : Ranges
ranges = (
  (
    taken Nodes (codes "2") 2 refl (omega arith) refl (omega arith) (omega arith, omega arith),
    taken Nodes (codes "1048576") 1048576 refl (omega arith) refl (omega arith) (omega arith, omega arith),
    taken Budget (codes "0") 0 refl (omega arith) refl (omega arith) tt,
    taken Budget (codes "18446744073709551615") 18446744073709551615 refl (omega arith) refl (omega arith) tt,
  ),
  (λ n t. omega (arith, t.0.1, t.1.0)),
  (λ n t. omega (arith, t.0.1, t.1.1)),
  (λ n t. omega (arith, t.0.1, t.0.2)),
)

frob-is-none : (s : Setting) → codes "--frob" ≡ name_of s → ⊥
frob-is-none Nodes e = omega (arith, ap length e)
frob-is-none Budget e = omega (arith, ap length e)

pub calls : Calls
calls = (
  (λ o e. (1, subst (Sets _ 1) (sym e) none, omega arith)),
  (λ o e. (
    7,
    subst (Sets _ 7) (sym e)
        (more Nodes 4096
        (more Budget 5
        (more Nodes 1000 none (omega arith) refl (taken Nodes (codes "1000") 1000 refl (omega arith) refl (omega arith) (omega arith, omega arith)))
        (omega arith) refl (taken Budget (codes "5") 5 refl (omega arith) refl (omega arith) tt))
        (omega arith) refl (taken Nodes (codes "+0004096") 4096 refl (omega arith) refl (omega arith) (omega arith, omega arith))),
    omega arith,
  )),
  (3, (_, more Budget 5 none (omega arith) refl (taken Budget (codes "5") 5 refl (omega arith) refl (omega arith) tt), omega arith), refl),
  (
    (_, more Budget 5 none (omega arith) refl (taken Budget (codes "5") 5 refl (omega arith) refl (omega arith) tt), omega arith),
    (λ e. omega (arith, ap (λ w. slice_index w 2) e)),
    frob-is-none,
  ),
  (1, (_, none, omega arith), refl, refl),
  (1, (_, none, omega arith), refl, refl, omega arith, (λ n t. omega (arith, t.0.1, t.1.0))),
)

pub usages : Usages
usages = (refl, refl, refl)

pub faults : Faults
faults = (refl, refl, refl)

pub limits : Limits
unfolding digits
limits = (
  (refl, refl, refl),
  (λ o e. let n : o.nodes ≡ 256 = ap (λ (x : ℕ × ℕ). x.0) e in let b : o.budget ≡ 10000 = ap (λ (x : ℕ × ℕ). x.1) e in rw (n, b) (refl, refl, refl)),
  (λ o e. let n : o.nodes ≡ 1048576 = ap (λ (x : ℕ × ℕ). x.0) e in rw n refl),
)

pub explained : Explained
unfolding digits
explained = ((refl, refl, refl, refl, refl, refl, refl, refl, refl), (refl, refl, refl), (refl, refl, refl, refl))

pub streams : Streams
unfolding digits
streams = (
  (λ ws p o. (refl, refl, refl)),
  (λ ws r front. (refl, refl, refl)),
  (λ ws a e. rw e (refl, refl)),
  (λ ws a e. rw e (refl, refl, refl)),
  (λ ws a e. rw e (refl, refl, refl)),
  (λ ws a e. rw e (refl, refl, refl)),
)

pub wants : Wants
wants = (refl, refl)
