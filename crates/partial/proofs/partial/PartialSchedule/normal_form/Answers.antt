use Rattle.std.proofs.Common.{◌≡◌, ℕ, None, get_or, sym, refl, subst, rules}
use Rattle.std.specs.Option.{option_map}
use Rattle.model.specs.NormalForm.{normal_form, Renames, Normal, Same}
use Rattle.model.proofs.Naming.{form-normal, form-renames, one_form}
use Rattle.loader.specs.Meaning.{the_graph}
use Rattle.partial.specs.Meaning.{the_partial}
use Rattle.partial.specs.Names.{the_names, renamed}
use Rattle.partial.specs.Places.{partial_of}
use Rattle.partial.proofs.Naming.{mapped, renamed-is}
use Rattle.partial.proofs.partial.PartialSchedule.normal_form.Goals as goal

pub returns : goal.returns
returns c =
    let G = the_graph c.args.g.now in
    let q = c.args.self.now.places in
    let s = the_partial c.args.self.now in
    let n = the_names c.names-names.result in
    let each : (k : ℕ) → get_or c.map.result k None ≡ option_map (renamed n) (get_or q k None) =
    λ k. mapped _ _ (option_map (renamed n)) (λ x y p h. search rules) q c.map.result 32 c.args.self.now.sized c.map.ensures.items k None None refl in
    let e : partial_of c.map.result ≡ normal_form G s = renamed-is G q c.map.result n c.names-names.ensures each in
    record {
      is = e;
      normal = λ o. subst (Normal G) (sym e) (form-normal G s o);
      renames = λ o. subst (Renames G s) (sym e) (form-renames G s o);
      one_form = λ d o R. subst (Same G (normal_form G d)) (sym e) (one_form G s d o R);
    }
