use Rattle.std.proofs.Common.{◌≡◌, ℕ, ◌+◌, ◌<◌, List, length, map, take, get_or, Some, None, Option, sym, ap, subst, ◌∙◌}
use Rattle.std.specs.List.{Contains, fold}
use Rattle.std.proofs.lemmas.List.Elements.{Contains-get_or}
use Rattle.std.proofs.lemmas.List.Folds.{fold-map}
use Rattle.std.proofs.lemmas.List.Sums.{fold_more}
use Rattle.model.specs.Graph.{Graph}
use Rattle.model.specs.Partial.{Partial}
use Rattle.partial.specs.declared.partial.PartialSchedule.{PartialSchedule}
use Rattle.model.proofs.Membership.{contains-map}
use Rattle.partial.specs.Meaning.{the_partial, Appendable, Answers}
use Rattle.children.specs.declared.choice.Choice.{Choice}
use Rattle.children.specs.Choices.{pair_of, pairs_of}

-- an answer that is some partial schedule is the one told
pub answered : (g : Graph) (s : Partial) (t m : ℕ) (c : Partial) (r : Option PartialSchedule) (q : PartialSchedule) → Answers g s t m c r → r ≡ Some q → the_partial q ≡ c
answered g s t m c None q a e = cc
answered g s t m c (Some p) q a e = let z : p ≡ q = cc in ap the_partial (sym z) ∙ a.1

-- one item more of a list that a function reads
pub fold-map-more : {S X Y : Type 0} (f : S → Y → S) (p : X → Y) (w v u : S) (xs : List X) (k : ℕ) (d : X) → k < length xs
    → v ≡ fold f w (map p (take k xs)) → u ≡ f v (p (get_or xs k d)) → u ≡ fold f w (map p (take (k + 1) xs))
fold-map-more f p w v u xs k d h before after =
    after
    ∙ ap (λ z. f z (p (get_or xs k d))) (before ∙ fold-map f p w (take k xs))
    ∙ sym (fold_more (λ z e. f z (p e)) w xs k d h)
    ∙ sym (fold-map f p w (take (k + 1) xs))

-- a choice's pair is one of the pairs
pub choice-at : (cs : List Choice) (k : ℕ) (d : Choice) → k < length cs → Contains (pairs_of cs) (pair_of (get_or cs k d))
choice-at cs k d h = contains-map pair_of cs (get_or cs k d) (Contains-get_or cs k d h)

-- what can be appended to one partial schedule by some pairs can be to the same by the same
pub appendable-on : (g : Graph) (s c : Partial) (xs ys : List (ℕ × ℕ)) → c ≡ s → ys ≡ xs → ((t m : ℕ) → Contains xs (t, m) → Appendable g s t m) → (t m : ℕ) → Contains ys (t, m) → Appendable g c t m
appendable-on g s c xs ys e f h t m k = subst (λ z. Appendable g z t m) (sym e) (h t m (subst (λ zs. Contains zs (t, m)) f k))
