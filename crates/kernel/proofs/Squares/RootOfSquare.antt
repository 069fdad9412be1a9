-- The root of a square. `root_of_square`: for a double w from 2 ^ -511 on whose square is finite, the rounded root of the rounded square is w.
-- `value_of`: a positive double is its scaled size over 2 ^ 1074.
use Prim.Native.Nat.{ℕ, zero, suc, ◌+◌, ◌-◌, ◌*◌, ◌/◌, ◌%◌, ◌^◌, ◌≤◌, ◌<◌}
use native.Mathlib.Nat.{le_trans, zero-mul, mul-le-mul, mul-le-mul_right, mul-pos, mod-lt, mod-eq_of_lt}
use native.Mathlib.Omega.{arith}
use native.Mathlib.Decide.{dec_lt}
use mathlib.Core.Bool.{Bool, false}
use mathlib.Core.Path.{◌≡◌, sym, ap, ◌∙◌, subst}
use borrow.Author.Tests.{lt-leb}
use lib.Dec.{T}
use lib.Pow.{pow_pos, pow_mono}
use lib.Ieee.{Float, binary64, fits, of_bits, to_bits, round, size}
use lib.Ieee.Bits.{of_bits-to_bits}
use lib.Ieee.Exact.{HasValue}
use lib.Ieee.Positive.{positive, positive_of_value, mul_at}
use lib.Ieee.Scale.{finite, round_val, round_under, normal_of_fraction}
use Rattle.kernel.specs.Number.{mul}
use Rattle.kernel.proofs.Roots.Rounding.{Rounds}
use Rattle.kernel.specs.Sqrt.{scaled, scaled_bits, root_pattern, sqrt}
use Rattle.kernel.proofs.Doubles.Patterns.{value-scaled, positive-pattern, pattern-value}
use Rattle.kernel.proofs.Doubles.PatternOrder.{scaled_bits-low, scaled_bits-at, split_pattern}
use Rattle.kernel.proofs.Roots.RootPatterns.{root_pattern_is}
use Rattle.kernel.proofs.Roots.SquareRoot.{sqrt-positive}
use Rattle.kernel.proofs.Squares.SquarePatterns.{rounded, square-rounds}

-- a positive double over 2 ^ 1074
pub value_of : (w : Float) → T (fits binary64 w) → T (positive w) → HasValue w false (scaled w) (2 ^ 1074)
value_of w f h =
    let p = to_bits binary64 w in
    let q = positive-pattern w f h in
    let whole : p % 2 ^ 63 ≡ p = mod-eq_of_lt (omega (arith, q.below-infinity)) in
    let v : HasValue (of_bits binary64 p) false (scaled_bits p) (2 ^ 1074) =
    subst (λ (s : Bool). HasValue (of_bits binary64 p) s (scaled_bits p) (2 ^ 1074)) (lt-leb (2 ^ 63) p (omega (arith, q.below-infinity)))
    (rw whole at (pattern-value p (rw whole q.below-infinity))) in
    rw q.size (subst (λ (x : Float). HasValue x false (scaled_bits p) (2 ^ 1074)) (of_bits-to_bits binary64 w f) v)

-- a factor of what is above 0
factor : (x c : ℕ) {n : ℕ} → n < 4 * x * c → 0 < x
factor zero c l = absurd (omega (arith, zero-mul c))
factor (suc x) c l = omega arith

module _ (w : Float) (f : T (fits binary64 w)) (h : T (positive w)) (large : 2 ^ 563 ≤ scaled w) (bounded : T (finite (mul w w))) where
  -- the pattern of w, its exponent's field less one, and its 53 digits
  abbrev p : ℕ
  p = to_bits binary64 w

  abbrev t : ℕ
  t = p / 2 ^ 52 - 1

  abbrev r : ℕ
  r = 2 ^ 52 + p % 2 ^ 52

  -- w is no subnormal number
  high : 2 ^ 52 ≤ p
  high = go (dec_lt p (2 ^ 52))
    where
      go : Dec (p < 2 ^ 52) → 2 ^ 52 ≤ p
      go (yes l) = let s : 2 ^ 52 ≤ scaled w = le_trans (pow_mono {i = 52} {j = 563} (omega arith)) large in absurd (omega (arith, (positive-pattern w f h).size, scaled_bits-low p l))
      go (no l) = omega arith

  low : p % 2 ^ 52 < 2 ^ 52
  low = mod-lt p (pow_pos 52)

  here : scaled w ≡ r * 2 ^ t
  here = (positive-pattern w f h).size ∙ ap scaled_bits (sym (split_pattern p high)) ∙ scaled_bits-at t r (omega arith) (omega (arith, low))

  -- the square, in units of 2 ^ -1074
  abbrev v : ℕ
  v = r * 2 ^ t

  product : mul w w ≡ round binary64 false (v * v) (2 ^ 1074 * 2 ^ 1074)
  product =
      let own : HasValue w false v (2 ^ 1074) = rw here at (value_of w f h) in
      mul_at binary64 w w v (2 ^ 1074) v (2 ^ 1074) h h (pow_pos 1074) (pow_pos 1074) own own

  normal : 53 ≤ size (v * v * 2 ^ 1074 / (2 ^ 1074 * 2 ^ 1074))
  normal = normal_of_fraction binary64 (v * v) (2 ^ 1074 * 2 ^ 1074) (mul-pos (pow_pos 1074) (pow_pos 1074)) (squared (2 ^ 563) v (rw here at large))
    where
      squared : (a b : ℕ) → a ≤ b → a * a * 2 ^ 1074 ≤ b * b * 2 ^ 1074
      squared a b l = mul-le-mul_right (2 ^ 1074) (mul-le-mul l l)

  held : HasValue (mul w w) false (rounded (v * v)) (2 ^ 1074)
  held = rw product (round_val binary64 (v * v) (2 ^ 1074 * 2 ^ 1074) (round_under binary64 (v * v) (2 ^ 1074 * 2 ^ 1074) (rw product at bounded)))

  rounding : Rounds (rounded (v * v)) (t * 2 ^ 52 + r)
  rounding = square-rounds r t (omega arith) (omega (arith, low)) normal

  pub root_of_square : sqrt (mul w w) ≡ w
  root_of_square =
      let above : 0 < rounded (v * v) = factor (rounded (v * v)) (2 ^ 1074) rounding.not_less in
      sqrt-positive (mul w w) (positive_of_value (mul w w) (rounded (v * v)) (2 ^ 1074) held above)
      ∙ ap (λ (z : ℕ). of_bits binary64 (root_pattern z)) (value-scaled (mul w w) false (rounded (v * v)) held)
      ∙ ap (of_bits binary64) (root_pattern_is (rounded (v * v)) (t * 2 ^ 52 + r) rounding (rw (split_pattern p high) (omega (arith, (positive-pattern w f h).below-infinity))) ∙ split_pattern p high)
      ∙ of_bits-to_bits binary64 w f
