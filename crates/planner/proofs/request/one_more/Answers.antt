use Rattle.std.proofs.Common.{◌≡◌, ◌≢◌, ℕ, ◌<◌, Bool, true, false, List, length, map, Global, arith, sym, subst, ◌∙◌}
use Rattle.std.specs.Prelude.{MatchBool, String, string_bytes, codes}
use Rattle.std.proofs.lemmas.List.{length-map}
use Rattle.planner.specs.Options.{Takes}
use Rattle.planner.proofs.request.one_more.Goals as goal

help : (b : Bool) (w : List ℕ) → MatchBool b (w ≡ codes "--help") (w ≢ codes "--help") → b ≡ true → w ≡ codes "--help"
help true w m e = m
help false w m e = cc

no-help : (b : Bool) (w : List ℕ) → MatchBool b (w ≡ codes "--help") (w ≢ codes "--help") → b ≡ false → w ≢ codes "--help"
no-help true w m e = cc
no-help false w m e = m

-- a place within the words is one within their bytes
within : (ws : List (String Global)) (i : ℕ) → i < length ws → i < length (map string_bytes ws)
within ws i l = omega (arith, length-map ws string_bytes, l)

pub returns-then-is_help : goal.returns-then-is_help
returns-then-is_help c =
    λ x s. (c.args.place, (x, s, within _ _ c.requires), sym c.word-name.ensures ∙ help _ _ c.is_help.ensures c.if-is_help.true)

pub returns-in_default : goal.returns-in_default
returns-in_default c =
    λ x s. ((x, s, within _ _ c.requires), (λ e. no-help _ _ c.is_help.ensures c.if-is_help.false (c.word-name.ensures ∙ e)), (λ t e. c.in_default.ensures t (c.word-name.ensures ∙ e)))

pub returns-then-place-words : goal.returns-then-place-words
returns-then-place-words c =
    λ x s. (
      c.args.place,
      (x, s, within _ _ c.requires),
      sym c.word-name.ensures ∙ c.in-Some.ensures,
      omega (arith, length-map c.args.words.now string_bytes, c.requires, c.if-place-words.true),
    )

pub returns-in-None : goal.returns-in-None
returns-in-None c =
    λ x s. (
      c.args.place,
      (x, s, within _ _ c.requires),
      sym c.word-name.ensures ∙ c.in-Some.ensures,
      omega arith,
      within _ _ c.if-place-words.false,
      (λ n t. c.in-None.ensures n (subst (λ w. Takes c.in-Some.setting w n) (sym c.word.ensures) t)),
    )
