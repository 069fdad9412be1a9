-- Laws of the whole number nearest to a root. `nearest_test`: what the test of number/root.rt decides; `nearest_range`: the root of a significand is a significand
-- again. The digit recurrence holds `Digits`: `no_digits` begins it, `digit_taken` and `digit_passed` make one digit more, `sizes` bounds the numbers on the way.
-- After the last digit `nearest-same`, `nearest-next` and `nearest-second` say which of three numbers is the nearest.
use Prim.Native.Nat.{ℕ, zero, suc, pred, ◌+◌, ◌-◌, ◌*◌, ◌/◌, ◌^◌, ◌≤◌, ◌<◌}
use native.Mathlib.Nat.{mul-le-mul, le_dest, suc-pred-eq_of_pos, mul-le-mul_left, mul-le-mul_right, lt_of_mul-lt-mul_right, pow-succ'}
use lib.Pow.{pow_pos, pow_mono}
use lib.Arith.{le-zero}
use native.Mathlib.Omega.{arith}
use native.Mathlib.Decide.{dec_le, dec_lt}
use mathlib.Core.Path.{◌≡◌, refl, sym, ap, ◌∙◌, subst, subst⁻¹}
use Rattle.kernel.specs.Sqrt.{square}
use Rattle.kernel.specs.Private.{Nearest}
use Rattle.kernel.proofs.Roots.Rounding.{Significand}

-- The test of number/root.rt: r is a * 2 ^ 27 + b, and e * 2 ^ 28 - (b² + 2 ^ 53) is w * 2 ^ 52 - r².
pub nearest_test : (w r a b d e : ℕ) → r ≡ a * 2 ^ 27 + b → w + 2 ≡ 4 * a * a + d → d * 2 ^ 24 ≡ e + a * b
    → b * b + 2 ^ 53 < e * 2 ^ 28 + r → e * 2 ^ 28 ≤ b * b + 2 ^ 53 + r → Nearest w r
nearest_test w r a b d e er ew ee low high =
    let sq : r * r ≡ (a * 2 ^ 27 + b) * (a * 2 ^ 27 + b) = ap square er in
    record { not_less = omega arith; not_greater = omega arith }

-- A significand, doubled where the exponent is odd.
pub argument_least : (digits odd : ℕ) → 2 ^ 52 ≤ (2 ^ 52 + digits) * (1 + odd)
argument_least digits odd = omega arith

pub argument_most : (digits odd : ℕ) → digits < 2 ^ 52 → odd < 2 → (2 ^ 52 + digits) * (1 + odd) ≤ 2 ^ 54 - 2
argument_most digits odd hd ho = let one : odd ≤ 1 = omega arith in omega (arith, mul-le-mul_left digits one)

-- A root of a number with 53 or 54 digits, the last 0 where there are 54, has 53 digits.
pub nearest_range : (w r : ℕ) → 2 ^ 52 ≤ w → w ≤ 2 ^ 54 - 2 → Nearest w r → Significand r
nearest_range w r lo hi n = record { least = least (dec_le (2 ^ 52) r); most = most (dec_lt r (2 ^ 53)) }
  where
    least : Dec (2 ^ 52 ≤ r) → 2 ^ 52 ≤ r
    least (yes h) = h
    least (no h) = let k : suc r ≤ 2 ^ 52 = omega arith in absurd (omega (arith, mul-le-mul k k, n.not_greater))

    most : Dec (r < 2 ^ 53) → r < 2 ^ 53
    most (yes h) = h
    most (no h) =
        let more = le_dest (lt_not h) in
        let sq : r * r ≡ (2 ^ 53 + more.0) * (2 ^ 53 + more.0) = ap square (sym more.1) in
        absurd (omega (arith, more.1, n.not_less))
      where
        lt_not : (r < 2 ^ 53 → ⊥) → 2 ^ 53 ≤ r
        lt_not h = omega arith

-- The digits of the root of w * 2 ^ 52 before the digit t = 2 ^ k.
pub record Digits (w root rest t k : ℕ) : Type 0 where
  pub digit : t ≡ 2 ^ k
  pub places : k ≤ 52
  pub left : root * root + rest * t ≡ w * 2 ^ 52
  pub near : w * 2 ^ 52 < (root + 2 * t) * (root + 2 * t)

pub no_digits : (w : ℕ) → w < 2 ^ 54 → Digits w 0 w (2 ^ 52) 52
no_digits w h = record { digit = refl; places = omega arith; left = omega arith; near = omega arith }

-- How large the numbers are on the way.
pub record Sizes (root rest t : ℕ) : Type 0 where
  pub root_is : root < 2 ^ 53
  pub rest_is : rest < 4 * root + 4 * t
  pub digit_is : t ≤ 2 ^ 52

pub sizes : {w root rest t k : ℕ} → w < 2 ^ 54 → Digits w root rest t k → Sizes root rest t
sizes {w} {root} {rest} {t} {k} h d = record {
  root_is = small (dec_lt root (2 ^ 53));
  rest_is = lt_of_mul-lt-mul_right t (omega (arith, d.left, d.near));
  digit_is = subst⁻¹ (λ (x : ℕ). x ≤ 2 ^ 52) d.digit (pow_mono d.places);
}
  where
    small : Dec (root < 2 ^ 53) → root < 2 ^ 53
    small (yes s) = s
    small (no s) = let b : 2 ^ 53 ≤ root = omega arith in absurd (omega (arith, mul-le-mul b b, d.left))

pub digits_same : {w root rest t k root' rest' t' k' : ℕ} → Digits w root rest t k → root ≡ root' → rest ≡ rest' → t ≡ t' → k ≡ k' → Digits w root' rest' t' k'
digits_same {w} {root' = root'} {rest' = rest'} {t' = t'} {k' = k'} d a b e f = rw (← a, ← b, ← e, ← f) d

-- t is even before the last digit
pub digit_even : {w root rest t k : ℕ} → Digits w root rest t k → 0 < k → 2 * (t / 2) ≡ t
digit_even {t = t} {k = k} d h = even (suc-pred-eq_of_pos h)
  where
    even : suc (pred k) ≡ k → 2 * (t / 2) ≡ t
    even e = omega (arith, d.digit, ap (λ (x : ℕ). 2 ^ x) e, pow-succ' 2 (pred k))

half : (p k : ℕ) → 2 * p ≡ 2 ^ suc k → p ≡ 2 ^ k
half p k e = omega (arith, pow-succ' 2 k)

-- the digit 2 * p is taken, which leaves z * (2 * p)
pub digit_taken : {w root k : ℕ} (p z : ℕ) → Digits w root (2 * root + 2 * p + z) (2 * p) (suc k) → Digits w (root + 2 * p) (2 * z) p k
digit_taken {k = k} p z d = record {
  digit = half p k d.digit;
  places = omega (arith, d.places);
  left = omega (arith, d.left);
  near = omega (arith, d.near);
}

pub digit_passed : {w root rest k : ℕ} (p : ℕ) → Digits w root rest (2 * p) (suc k) → rest < 2 * root + 2 * p → Digits w root (2 * rest) p k
digit_passed {k = k} p d h = record {
  digit = half p k d.digit;
  places = omega (arith, d.places);
  left = omega (arith, d.left);
  near = omega (arith, d.left, mul-le-mul_right (2 * p) h, half p k d.digit, pow_pos k);
}

-- After the last digit, at t = 1, the root is one of three numbers.
module _ {w root rest t k : ℕ} (d : Digits w root rest t k) (end : k ≤ 0) where
  last : t ≡ 1
  last = d.digit ∙ ap (λ (x : ℕ). 2 ^ x) (le-zero end)

  left : root * root + rest ≡ w * 2 ^ 52
  left = omega (arith, d.left, ap (λ (x : ℕ). rest * x) last)

  near : w * 2 ^ 52 < (root + 2) * (root + 2)
  near = subst (λ (x : ℕ). w * 2 ^ 52 < (root + 2 * x) * (root + 2 * x)) last d.near

  pub nearest-same : 0 < w → rest ≤ root → Nearest w root
  nearest-same p h = record { not_less = omega (arith, left, positive root near); not_greater = omega (arith, left) }
    where
      positive : (q : ℕ) → w * 2 ^ 52 < (q + 2) * (q + 2) → 0 < q
      positive zero n = absurd (omega arith)
      positive (suc q) n = omega arith

  pub nearest-next : root < rest → rest ≤ 3 * root + 2 → Nearest w (root + 1)
  nearest-next h l = record { not_less = omega (arith, left); not_greater = omega (arith, left) }

  pub nearest-second : 3 * root + 2 < rest → Nearest w (root + 2)
  nearest-second h = record { not_less = omega (arith, left); not_greater = omega (arith, near) }
