use Rattle.std.specs.Prelude.{ℕ, ◌+◌, ◌*◌, ◌/◌, ◌%◌, ◌^◌, if◌then◌else◌, bit_xor, fold}
use Rattle.std.specs.List.{range_with_len}
use Rattle.model.specs.Partial.{Partial}

-- the placement of a task as one number, 0 where it is not placed
abbrev pub word_of : Partial → ℕ → ℕ
word_of s t = if s.placed t then s.start t * 256 + s.machine t + 1 else 0

-- x with its upper half added to its lower
abbrev pub folded : ℕ → ℕ
folded x = bit_xor x (x / 2 ^ 32)

-- a hash with one number more
unfoldable pub mixed : ℕ → ℕ → ℕ
mixed h w = folded ((bit_xor h w * 0x9E3779B97F4A7C15) % 2 ^ 64)

-- a hash of all 32 places
unfoldable pub hash_of : Partial → ℕ
hash_of s = fold (λ h t. mixed h (word_of s t)) 0 (range_with_len 0 32)

-- the bucket of a partial schedule, one of m
abbrev pub bucket_of : Partial → ℕ → ℕ
bucket_of s m = hash_of s % m
