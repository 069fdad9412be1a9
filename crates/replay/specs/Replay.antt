-- Doubles by their bit patterns, and the records of a block.
use Rattle.std.specs.Prelude.{ℕ, ◌+◌, ◌*◌, ◌/◌, Bool, true, cond, ◌&&◌, List, [], ◌∷◌, length, take, drop, ◌==◌, is_nan, nat_le, to_bits, Float, get_or}
use Rattle.std.specs.Float.{binary64}
use Rattle.std.specs.Float.Ieee.{nan, nan_bits}
use Rattle.kernel.specs.Bytes.{word}

-- Entry i of values; where there is none, a NaN.
abbrev pub entry : List Float → ℕ → Float
entry values i = get_or values i nan

-- Whether x is the double with the bit pattern p: any NaN is any NaN.
unfoldable pub same : Float → ℕ → Bool
same x p = cond (is_nan x) (nan_bits binary64 p) (to_bits binary64 x == p)

-- Whether every value is the double whose bit pattern stands at its place in s, eight bytes to each: the first at an offset, the others one after
-- the other. A value whose pattern is not all there is another.
unfoldable pub same_from : List ℕ → ℕ → List Float → Bool
unfolding same word
same_from s at [] = true
same_from s at (x ∷ values) = nat_le (at + 8) (length s) && (same x (word s at) && same_from s (at + 8) values)

-- The same with the first pattern at the start of s.
unfoldable pub all_same : List Float → List ℕ → Bool
unfolding same_from
all_same values s = same_from s 0 values

-- The n bytes of s at an offset; none where they are not all there.
unfoldable pub bytes_at : List ℕ → ℕ → ℕ → List ℕ
bytes_at s at n = cond (nat_le (at + n) (length s)) (take n (drop at s)) []

-- What s has after n bytes that are filled up to a whole number of eight.
unfoldable pub bytes_after : List ℕ → ℕ → List ℕ
bytes_after s n = drop ((n + 7) / 8 * 8) s

-- The bytes of the record of s at an offset, whose first number says how many numbers it has; 0 where they are not all there.
unfoldable pub record_size : List ℕ → ℕ → ℕ
unfolding word bytes_at
record_size s at = length (bytes_at s at (8 * word s at))
