-- `field_within`: the fields of the lower triangle lie among those of a track.
use Prim.Native.Nat.{ℕ, suc, ◌+◌, ◌*◌, ◌<◌, ◌≤◌}
use native.Mathlib.Omega.{arith}
use native.Mathlib.Nat.{mul-le-mul, suc-mul, mul-suc}
use Rattle.tracks.specs.Layout.{fields}
use Rattle.compare.specs.Fields.{lower_field}

pub field_within : (d i j : ℕ) → i < d → j ≤ i → lower_field d i j < fields d
unfolding fields
field_within d i j h k =
    let l : suc (i + 1) ≤ d + 1 = omega arith in
    omega (arith, mul-le-mul h l, suc-mul i (suc (i + 1)), mul-suc i (i + 1))

-- and the product that leads there is small
pub row_product : (d i : ℕ) → i ≤ d → d ≤ 16 → i * (i + 1) ≤ 272
row_product d i h k = let a : i ≤ 16 = omega arith in let b : i + 1 ≤ 17 = omega arith in omega (arith, mul-le-mul a b)
