use Rattle.std.proofs.Common.{◌≡◌, ◌+◌, length, take, Ok, sym, ◌∙◌}
use Rattle.loader.specs.Meaning.{description_of}
use Rattle.loader.specs.Layout.{place_of}
use Rattle.loader.specs.Parse.{header_at, read_works, read_transfers, end_at}
use Rattle.loader.proofs.Assembling.{decoded}
use Rattle.loader.proofs.load.decode.Goals as goal

pub returns : goal.returns
returns c =
    let bs = c.args.bytes.now in
    let s = c.in_ok-sizes.sizes in
    let ts = c.in_ok-transfers.transfers in
    let header : header_at bs ≡ Ok (s.tasks, s.machines) = cc c.in_ok-sizes.ensures.is in
    let works : read_works bs s.tasks ≡ Ok (take s.tasks c.in_ok-works.works) = cc (c.in_ok-sizes.ensures.bytes, c.in_ok-works.ensures.is) in
    let transfers : read_transfers bs s.tasks ≡ Ok ts = cc (c.in_ok-sizes.ensures.bytes, c.in_ok-works.ensures.bytes, c.in_ok-transfers.ensures.is) in
    let at = c.in_ok-transfers.ensures.at in
    let same = c.in_ok-transfers.ensures.bytes ∙ (c.in_ok-works.ensures.bytes ∙ c.in_ok-sizes.ensures.bytes) in
    let end : end_at bs (place_of s.tasks (length ts) + 4) ≡ Ok tt = rw (same, at) at (sym c.in_ok-read_end.ensures) in
    decoded bs (description_of s c.in_ok-works.works ts) header works transfers end
