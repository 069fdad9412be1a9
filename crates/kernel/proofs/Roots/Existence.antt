-- Every finite double above 0 has a rounded root. `root-found`: what `root_pattern` finds for its size is a pattern above 0 and below infinity's, and rounds the root.
use Prim.Native.Nat.{ℕ, zero, suc, ◌+◌, ◌-◌, ◌*◌, ◌/◌, ◌%◌, ◌^◌, ◌≤◌, ◌<◌}
use native.Mathlib.Nat.{pos_of_ne-zero, mul-le-mul_right, mul-lt-mul_of_pos_right}
use native.Mathlib.Omega.{arith}
use native.Mathlib.Decide.{dec_le, dec_lt}
use mathlib.Core.Path.{◌≡◌, refl, sym, ap, ◌∙◌, subst}
use lib.Pow.{pow_pos, pow-add}
use lib.Ieee.{size}
use lib.Ieee.Digits.{size-lt, size_reaches, size-le}
use Rattle.kernel.specs.Sqrt.{scaled_bits, root_pattern}
use Rattle.kernel.specs.Private.{Nearest}
use Rattle.kernel.proofs.Roots.Rounding.{Rounds}
use Rattle.kernel.proofs.Roots.RootPatterns.{significand_range, rounds_of, root_of, subnormal_argument, normal_argument}

-- ---- whole numbers

record Floor (v s : ℕ) : Type 0 where
  not_above_lem : s * s ≤ v
  next-above : v < (s + 1) * (s + 1)

floor : (v : ℕ) → (s : ℕ) × Floor v s
floor zero = (0, record { not_above_lem = omega arith; next-above = omega arith })
floor (suc v) = let f = floor v in step f.0 f.1 (dec_lt (suc v) ((f.0 + 1) * (f.0 + 1)))
  where
    step : (s : ℕ) → Floor v s → Dec (suc v < (s + 1) * (s + 1)) → (t : ℕ) × Floor (suc v) t
    step s f (yes h) = (s, record { not_above_lem = omega (arith, f.not_above_lem); next-above = h })
    step s f (no h) = (s + 1, record { not_above_lem = omega arith; next-above = omega (arith, f.next-above) })

nearest : (w : ℕ) → 0 < w → (r : ℕ) × Nearest w r
nearest w h = let f = floor (w * 2 ^ 52) in pick f.0 f.1 (dec_le (w * 2 ^ 52) (f.0 * f.0 + f.0))
  where
    pick : (s : ℕ) → Floor (w * 2 ^ 52) s → Dec (w * 2 ^ 52 ≤ s * s + s) → (r : ℕ) × Nearest w r
    pick zero f d = absurd (omega (arith, f.next-above))
    pick (suc s) f (yes k) = (suc s, record { not_less = omega (arith, f.not_above_lem); not_greater = k })
    pick (suc s) f (no k) = (suc s + 1, record { not_less = omega arith; not_greater = omega (arith, f.next-above) })

-- ---- the significand and the exponent of a double

record Argument (x : ℕ) : Type 0 where
  digits : ℕ
  e : ℕ
  digits_are : digits < 2 ^ 52
  e_is : e < 3069
  same : x * 2 ^ 1074 ≡ (2 ^ 52 + digits) * 2 ^ (52 + e)

subnormal : (b : ℕ) → 0 < b → b < 2 ^ 52 → Argument (scaled_bits b)
subnormal b h l =
    let k = size b in
    let s = 53 - k in
    let some : 0 < k = pos_of_ne-zero (λ (e : size b ≡ 0). omega (arith, rw e at (size-lt b))) in
    let few : k ≤ 52 = size-le b 52 l in
    let least : 2 ^ (k - 1) ≤ b = size_reaches b (k - 1) (omega arith) in
    let places : k - 1 + s ≡ 52 = omega arith in
    let more : k + s ≡ 53 = omega arith in
    let low : 2 ^ 52 ≤ b * 2 ^ s = subst (λ (n : ℕ). n ≤ b * 2 ^ s) (sym (pow-add 2 (k - 1) s) ∙ ap (λ (n : ℕ). 2 ^ n) places) (mul-le-mul_right (2 ^ s) least) in
    let high : b * 2 ^ s < 2 ^ 53 = subst (λ (n : ℕ). b * 2 ^ s < n) (sym (pow-add 2 k s) ∙ ap (λ (n : ℕ). 2 ^ n) more) (mul-lt-mul_of_pos_right (size-lt b) (pow_pos s)) in
    record {
      digits = b * 2 ^ s - 2 ^ 52;
      e = 1022 - s;
      digits_are = omega arith;
      e_is = omega arith;
      same = subnormal_argument b (b * 2 ^ s) s l (omega arith) refl low;
    }

argument : (b : ℕ) → 0 < b → b < 0x7FF0_0000_0000_0000 → Argument (scaled_bits b)
argument b h l = go (dec_lt b (2 ^ 52))
  where
    go : Dec (b < 2 ^ 52) → Argument (scaled_bits b)
    go (yes k) = subnormal b h k
    go (no k) = record {
      digits = b % 2 ^ 52;
      e = b / 2 ^ 52 + 1021;
      digits_are = omega arith;
      e_is = omega arith;
      same = normal_argument b (omega arith);
    }

-- ---- the root

pub record Found (x : ℕ) : Type 0 where
  pub pattern : ℕ
  pub above_zero : 0 < pattern
  pub finite : pattern < 0x7FF0_0000_0000_0000
  pub is_found : pattern ≡ root_pattern x
  pub rounds : Rounds x pattern

pub root-found : (b : ℕ) → 0 < b → b < 0x7FF0_0000_0000_0000 → Found (scaled_bits b)
root-found b h l =
    let a = argument b h l in
    let n = nearest ((2 ^ 52 + a.digits) * (1 + a.e % 2)) (omega arith) in
    let r = root_of a.digits a.e n.0 a.digits_are a.e_is n.1 in
    record {
      pattern = a.e / 2 * 2 ^ 52 + n.0;
      above_zero = omega (arith, (significand_range a.digits (a.e % 2) n.0 a.digits_are (omega arith) n.1).least);
      finite = r.finite;
      is_found = r.root (scaled_bits b) a.same;
      rounds = rounds_of (scaled_bits b) a.digits a.e n.0 a.digits_are n.1 a.same;
    }
