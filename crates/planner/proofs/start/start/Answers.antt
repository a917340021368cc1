use Rattle.std.proofs.Common.{◌≡◌, ℕ, Bool, true, false, Ok, Err, Result, MatchResult, ◌⊎◌, inl, inr, refl, sym, subst}
use Rattle.planner.specs.declared.answer.Answer.{Answer}
use Rattle.planner.specs.declared.answer.Answer.TheVariants.{Page, Refused, Help, BadCall, NoMemory, Unreadable}
use Rattle.planner.specs.Answers.{status_of}
use Rattle.std.specs.Prelude.{MatchBool}
use Rattle.planner.proofs.start.start.Goals as goal

abbrev ZeroOrOne : ℕ → Type 0
ZeroOrOne n = (n ≡ 0) ⊎ (n ≡ 1)

of-answer : (a : Answer) → ZeroOrOne (status_of a)
of-answer (Page p o) = inl refl
of-answer (Refused r v) = inr refl
of-answer Help = inl refl
of-answer (BadCall f) = inr refl
of-answer (NoMemory n) = inr refl
of-answer Unreadable = inr refl

of-delivered : (b : Bool) (n : ℕ) (a : Answer) (P Q R : Type 0) → MatchBool b (P × Q × (n ≡ status_of a)) (R × (n ≡ 1)) → ZeroOrOne n
of-delivered true n a P Q R d = subst ZeroOrOne (sym d.2) (of-answer a)
of-delivered false n a P Q R d = inr d.1

by-words : {V E : Type 0} {S : Type 0} (w : Result V E) (P : V → Type 0) (Q : E → Type 0) → MatchResult w P Q → ((v : V) → P v → S) → ((e : E) → Q e → S) → S
by-words (Ok v) P Q m f g = f v m
by-words (Err e) P Q m f g = g e m

pub returns : goal.returns
returns c =
    subst ZeroOrOne (sym c.code.ensures)
    (by-words c.words.result _ _ c.run.ensures (λ v h. of-delivered c.run.result.written c.run.result.status h.0 _ _ _ h.3) (λ e h. inr h.2))
