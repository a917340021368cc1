use Rattle.std.proofs.Common.{◌≡◌, ℕ, ◌+◌, ◌*◌, List, length, Ok, refl}
use Rattle.std.proofs.lemmas.Bool.{ltb-false}
use Rattle.model.specs.Graph.{Lawful}
use Rattle.model.specs.Cycles.{cyclic}
use Rattle.loader.specs.declared.faults.GraphFault.TheVariants.{Cycle}
use Rattle.loader.specs.Description.{Description, described}
use Rattle.loader.specs.Layout.{place_of}
use Rattle.loader.specs.Parse.{header_at, read_works, read_transfers, end_at, decode, cycle_test}
use Rattle.loader.proofs.Chaining.{and_then-at, refuse-ok}
use Rattle.loader.proofs.Decoding.{decode-told}
use Rattle.loader.proofs.Parsing.{lawful-all}

-- what is decoded, part by part
pub decoded : (bs : List ℕ) (d : Description) → header_at bs ≡ Ok (d.tasks, d.machines) → read_works bs d.tasks ≡ Ok d.works
    → read_transfers bs d.tasks ≡ Ok d.transfers → end_at bs (place_of d.tasks (length d.transfers) + 4) ≡ Ok tt → decode bs ≡ Ok d
decoded bs d h w t e =
    and_then-at (header_at bs) _ (d.tasks, d.machines) (Ok d) h
    (and_then-at (read_works bs d.tasks) _ d.works (Ok d) w
    (and_then-at (read_transfers bs d.tasks) _ d.transfers (Ok d) t
    (and_then-at (end_at bs (place_of d.tasks (length d.transfers) + 4)) _ tt (Ok d) e refl)))

-- what is decoded and has no cycle is lawful
pub decoded-lawful : (bs : List ℕ) (d : Description) → decode bs ≡ Ok d → cycle_test d ≡ Ok d → Lawful (described d)
decoded-lawful bs d h e =
    let q = refuse-ok _ (Cycle (8 + 6 * cyclic (described d))) d d e in
    lawful-all (decode-told bs d h).1 (ltb-false _ _ q.0)
