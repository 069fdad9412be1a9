-- What the proofs on roots say of a significand and of a rounded root, by name.
use Prim.Native.Nat.{ℕ, ◌+◌, ◌-◌, ◌*◌, ◌^◌, ◌≤◌, ◌<◌}
use Rattle.kernel.specs.Sqrt.{square, scaled_bits}

-- r has 53 binary digits
pub record Significand (r : ℕ) : Type 0 where
  pub least : 2 ^ 52 ≤ r
  pub most : r < 2 ^ 53

-- p is the bit pattern of the double nearest to the root of x, which is scaled by 2 ^ 1074
pub record Rounds (x p : ℕ) : Type 0 where
  pub not_less : square (scaled_bits (p - 1) + scaled_bits p) < 4 * x * 2 ^ 1074
  pub not_greater : 4 * x * 2 ^ 1074 < square (scaled_bits p + scaled_bits (p + 1))
