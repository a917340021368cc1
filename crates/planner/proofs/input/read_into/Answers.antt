use Rattle.std.proofs.Common.{◌≡◌, ℕ, ◌<◌, List, [], ◌++◌, take, Some, None, Option, Ok, Err, Result, OnOk, IfSome, refl, subst, ap, ◌∙◌, option_map}
use Rattle.std.specs.Prelude.{All}
use Rattle.loader.specs.Parse.{parse}
use Rattle.loader.specs.Prefix.{longest_prefix, Decides}
use Rattle.planner.specs.Input.{IsFront}
use Rattle.planner.proofs.input.read_into.Goals as goal

read : {A E : Type 0} (r : Result A E) (o p : Option (List ℕ)) (n : ℕ) (v old : List ℕ) → p ≡ o → n ≡ longest_prefix → old ≡ [] → Decides longest_prefix → All (λ b. b < 256) v
    → OnOk r (IfSome (option_map (take n) p) (λ xs. v ≡ old ++ xs)) → OnOk r (IsFront o v)
read (Ok x) (Some bs) p n v old s l e d a h =
    let q : v ≡ take longest_prefix bs = rw (s, e, l) at h in
    (q, ap parse q ∙ d bs (subst (All (λ b. b < 256)) q a))
read (Ok x) None p n v old s l e d a h = tt
read (Err x) o p n v old s l e d a h = tt

pub returns : goal.returns
returns g c =
    read c.read_to_end.result (g.R.Read.remaining c.args.input.now) (g.R.Read.remaining c.take.result.inner.now) c.take.result.limit c.read_to_end.new.buf.items c.args.front.now.items
    (rw c.take.ensures.inner refl) (c.take.ensures.limit ∙ c.longest_prefix.ensures.is) c.requires
    c.longest_prefix.ensures.decides c.type_inv.front c.read_to_end.ensures.bytes
