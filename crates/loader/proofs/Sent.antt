use Rattle.std.proofs.Common.{◌≡◌, ℕ, max, Bool, length, get_or, sym, ap, ◌∙◌}
use Rattle.std.specs.List.{list_any, list_all, fold}
use Rattle.model.specs.Range.{top, every, any}
use Rattle.model.proofs.Chains.{any-listed, every-listed, top-listed}
use Rattle.loader.specs.declared.transfer.Transfer.{Transfer}
use Rattle.loader.specs.declared.graph.TaskGraph.{TaskGraph}
use Rattle.loader.specs.Meaning.{transfers_of}
use Rattle.loader.specs.View.{blank}

-- what chains over the transfers of a graph make, told by index
module _ (g : TaskGraph) (l : length (transfers_of g) ≡ g.count) where
  pub any-sent : (p : Transfer → Bool) → list_any p (transfers_of g) ≡ any g.count (λ k. p (get_or (transfers_of g) k blank))
  any-sent p = sym (any-listed p blank (transfers_of g)) ∙ ap (λ (n : ℕ). any n (λ k. p (get_or (transfers_of g) k blank))) l

  pub every-sent : (p : Transfer → Bool) → list_all p (transfers_of g) ≡ every g.count (λ k. p (get_or (transfers_of g) k blank))
  every-sent p = sym (every-listed p blank (transfers_of g)) ∙ ap (λ (n : ℕ). every n (λ k. p (get_or (transfers_of g) k blank))) l

  pub top-sent : (h : Transfer → ℕ) → fold (λ b e. max b (h e)) 0 (transfers_of g) ≡ top g.count (λ k. h (get_or (transfers_of g) k blank))
  top-sent h = sym (top-listed h blank (transfers_of g)) ∙ ap (λ (n : ℕ). top n (λ k. h (get_or (transfers_of g) k blank))) l
