-- The square root of document 01, "Number helpers": the condition that it states, and an executable `sqrt`.
use Rattle.std.specs.Prelude.{ℕ, zero, suc, ◌+◌, ◌-◌, ◌*◌, ◌/◌, ◌%◌, ◌^◌, ◌<◌, Bool, true, false, cond, T, ltb, Float}
use Rattle.std.specs.Float.{nan, inf, fin, binary64}
use Rattle.std.specs.Float.Ieee.{fits, of_bits, to_bits, up, down}
use Rattle.std.specs.Float.Ieee.Positive.{positive}

-- ---- document 01's condition

abbrev pub square : ℕ → ℕ
square n = n * n

-- The size of a double times 2 ^ 1074, a whole number. An infinity counts as 2 ^ 1024, the number that would follow the largest double.
unfoldable pub scaled : Float → ℕ
scaled nan = 0
scaled (inf s) = 2 ^ 1024 * 2 ^ 1074
scaled (fin s m e) = m * up e * 2 ^ 1074 / down e

-- r⁺ and r⁻, the doubles next to a finite r above 0. In their order such doubles have the bit patterns 1, 2, 3, ..; `next-above` and
-- `next-below` of proofs/Roots/SquareRoot say that nothing lies between.
abbrev pub next_up : Float → Float
next_up r = of_bits binary64 (to_bits binary64 r + 1)

abbrev pub next_down : Float → Float
next_down r = of_bits binary64 (to_bits binary64 r - 1)

-- r is the double with (r⁻ + r)² < 4x < (r + r⁺)². Doubles are scaled by 2 ^ 1074, the squares and 4x by 2 ^ 2148.
pub record Root (x r : Float) : Type 0 where
  pub double : T (fits binary64 r)
  pub finite : T (positive r)
  pub not_less : square (scaled (next_down r) + scaled r) < 4 * scaled x * 2 ^ 1074
  pub not_greater : 4 * scaled x * 2 ^ 1074 < square (scaled r + scaled (next_up r))

-- ---- the root, computed

-- The double with the bit pattern p, sign clear, times 2 ^ 1074: by its exponent's field and the 52 digits after the leading one.
unfoldable pub scaled_bits : ℕ → ℕ
scaled_bits p = cond (ltb p (2 ^ 52)) p ((2 ^ 52 + p % 2 ^ 52) * 2 ^ (p / 2 ^ 52 - 1))

-- The greatest number from p up to p + 2 ^ k - 1 with the property, which holds at p, and up to some number.
unfoldable pub greatest : (ℕ → Bool) → ℕ → ℕ → ℕ
greatest holds zero p = p
greatest holds (suc k) p = greatest holds k (cond (holds (p + 2 ^ k)) (p + 2 ^ k) p)

-- n is 4x, scaled by 2 ^ 2148: whether (r⁻ + r)² < 4x for the double r with the bit pattern p
unfoldable pub not_above : ℕ → ℕ → Bool
unfolding scaled_bits
not_above n p = ltb (square (scaled_bits (p - 1) + scaled_bits p)) n

-- The bit pattern of the root of a finite x above 0, whose scaled value is given: that of the greatest double r with (r⁻ + r)² < 4x.
unfoldable pub root_pattern : ℕ → ℕ
unfolding greatest not_above
root_pattern x = greatest (not_above (4 * x * 2 ^ 1074)) 63 0

-- A zero and +infinity are their own roots; below 0 there is none, nor for a NaN.
unfoldable pub sqrt : Float → Float
unfolding root_pattern scaled
sqrt nan = nan
sqrt (inf true) = nan
sqrt (inf false) = inf false
sqrt (fin s zero e) = fin s zero e
sqrt (fin true (suc m) e) = nan
sqrt (fin false (suc m) e) = of_bits binary64 (root_pattern (scaled (fin false (suc m) e)))
