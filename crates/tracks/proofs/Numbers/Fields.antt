-- How many fields and how many map bits a track has. `one_bit_each`: as many of one as of the other. `most_fields` and `some-fields`: at most 54 and at least one,
-- for the dimensions that a list may have; `widest_fields`: at most 152 up to dimension 16.
use Prim.Native.Nat.{ℕ, zero, suc, ◌+◌, ◌*◌, ◌<◌, ◌≤◌}
use native.Mathlib.Omega.{arith}
use native.Mathlib.Nat.{mul-le-mul_right}
use mathlib.Core.Path.{◌≡◌, refl}
use mathlib.Core.Bool.{true}
use Rattle.tracks.specs.Layout.{fields, map_bits, dimension_met}

pub one_bit_each : (d : ℕ) → map_bits d ≡ fields d
unfolding map_bits
one_bit_each d = refl

pub most_fields : (d : ℕ) → d ≤ 9 → fields d ≤ 54
unfolding fields
most_fields d h = omega (arith, mul-le-mul_right (d + 1) h)

pub widest_fields : (d : ℕ) → d ≤ 16 → fields d ≤ 152
unfolding fields
widest_fields d h = omega (arith, mul-le-mul_right (d + 1) h)

-- the values of a list's tracks, of so many fields each
pub few_values : (n f size : ℕ) → n ≤ 32 → f ≤ 54 → size ≡ n * f → size ≤ 2048
few_values n f size h k e = omega (arith, e, mul-le-mul_right f h)

pub some-fields : (d : ℕ) → dimension_met d ≡ true → 0 < fields d
unfolding fields
some-fields zero h = let z : ◌≡◌ {A = ℕ} 0 1 = cc in absurd (omega arith)
some-fields (suc d) h = omega arith
