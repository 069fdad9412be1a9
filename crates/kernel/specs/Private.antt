-- Words of the private contracts in number/root.rt: the root of a double as the root of a whole number.
use Rattle.std.specs.Prelude.{ℕ, ◌+◌, ◌*◌, ◌^◌, ◌≤◌, ◌<◌, ◌≡◌}
use Rattle.kernel.specs.Sqrt.{square, root_pattern}

-- r is the whole number nearest to the root of w * 2 ^ 52: -r < w * 2 ^ 52 - r² ≤ r. There is no tie, since (2r + 1)² is odd.
pub record Nearest (w r : ℕ) : Type 0 where
  pub not_less : square r < w * 2 ^ 52 + r
  pub not_greater : w * 2 ^ 52 ≤ square r + r

-- p is the bit pattern of the root of each x, scaled by 2 ^ 1074, with x * 2 ^ 1074 = (2 ^ 52 + digits) * 2 ^ (52 + e)
pub record RootOf (digits e p : ℕ) : Type 0 where
  pub root : (x : ℕ) → x * 2 ^ 1074 ≡ (2 ^ 52 + digits) * 2 ^ (52 + e) → p ≡ root_pattern x
  pub finite : p < 0x7FF0_0000_0000_0000
