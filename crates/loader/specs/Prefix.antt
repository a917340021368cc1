use Rattle.std.specs.Prelude.{◌≡◌, ℕ, ◌+◌, ◌<◌, List, take, All}
use Rattle.loader.specs.Layout.{place_of}
use Rattle.loader.specs.Parse.{parse}

-- the longest run of good records, and the head and the longest payload of one more
abbrev pub longest_prefix : ℕ
longest_prefix = place_of 32 128 + 4 + 65535

-- the answer for an input is the answer for its first n elements, if these are bytes, whatever follows them
abbrev pub Decides : ℕ → Type 0
Decides n = (bs : List ℕ) → All (λ b. b < 256) (take n bs) → parse (take n bs) ≡ parse bs
