-- The theorems of the square root. `sqrt-root`: the root of a finite number above 0 meets the condition `Root`; `root_unique`: only one double does; `sqrt-fits`: it
-- fits the format. The special cases are `sqrt-nan`, `sqrt-infinity`, `sqrt_negative` and `sqrt-zero`. The doubles next to a double: `above_is_greater` and
-- `below_is_less`, with none between (`next-above`, `next-below`).
use Prim.Native.Nat.{ℕ, zero, suc, ◌+◌, ◌-◌, ◌*◌, ◌^◌, ◌≤◌, ◌<◌}
use native.Mathlib.Nat.{le_of_lt}
use native.Mathlib.Omega.{arith}
use native.Mathlib.Decide.{dec_lt}
use mathlib.Core.Path.{◌≡◌, refl, sym, ap, ◌∙◌, subst}
use mathlib.Core.Bool.{true, false}
use lib.Dec.{T}
use lib.Ieee.{Float, nan, inf, fin, binary64, fits, of_bits, to_bits}
use lib.Ieee.Bits.{of_bits-to_bits, to_bits-of_bits, of_bits-fits}
use lib.Ieee.Fits.{nan-fits, inf-fits}
use lib.Ieee.Positive.{positive}
use Rattle.kernel.specs.Sqrt.{square, scaled, next_up, next_down, Root, scaled_bits, root_pattern, sqrt}
use Rattle.kernel.proofs.Roots.Rounding.{Rounds}
use Rattle.kernel.proofs.Doubles.Patterns.{positive-pattern, pattern-size, pattern-positive, positive_no_nan}
use Rattle.kernel.proofs.Doubles.Signs.{negative, is_zero}
use Rattle.kernel.proofs.Doubles.PatternOrder.{scaled_bits_grows, scaled_bits_mono}
use Rattle.kernel.proofs.Roots.RootPatterns.{one-pattern}
use Rattle.kernel.proofs.Roots.Existence.{root-found}

-- ---- the doubles next to a finite double above 0

module _ (r : Float) (f : T (fits binary64 r)) (h : T (positive r)) where
  here : scaled r ≡ scaled_bits (to_bits binary64 r)
  here = (positive-pattern r f h).size

  up_next : scaled (next_up r) ≡ scaled_bits (to_bits binary64 r + 1)
  up_next = pattern-size (to_bits binary64 r + 1) (omega (arith, (positive-pattern r f h).below-infinity))

  down-next : scaled (next_down r) ≡ scaled_bits (to_bits binary64 r - 1)
  down-next = pattern-size (to_bits binary64 r - 1) (omega (arith, (positive-pattern r f h).below-infinity))

  pub above_is_greater : scaled r < scaled (next_up r)
  above_is_greater = rw (here, up_next) (scaled_bits_grows (to_bits binary64 r))

  pub below_is_less : scaled (next_down r) < scaled r
  below_is_less =
      let p = to_bits binary64 r in
      let back : p - 1 + 1 ≡ p = omega (arith, (positive-pattern r f h).above_zero) in
      rw (here, down-next) (subst (λ (x : ℕ). scaled_bits (p - 1) < scaled_bits x) back (scaled_bits_grows (p - 1)))

-- doubles above 0 and their patterns have one order
same-order : (r t : Float) → T (fits binary64 r) → T (positive r) → T (fits binary64 t) → T (positive t) → scaled r < scaled t → to_bits binary64 r < to_bits binary64 t
same-order r t fr hr ft ht l = go (dec_lt (to_bits binary64 r) (to_bits binary64 t))
  where
    go : Dec (to_bits binary64 r < to_bits binary64 t) → to_bits binary64 r < to_bits binary64 t
    go (yes k) = k
    go (no k) = absurd (omega (arith, here r fr hr, here t ft ht, scaled_bits_mono (to_bits binary64 t) (to_bits binary64 r) (omega arith)))

-- no double lies between r and r⁺, and none between r⁻ and r
module _ (r t : Float) (fr : T (fits binary64 r)) (hr : T (positive r)) (ft : T (fits binary64 t)) (ht : T (positive t)) where
  pub next-above : scaled r < scaled t → scaled (next_up r) ≤ scaled t
  next-above l = rw (up_next r fr hr, here t ft ht) (scaled_bits_mono _ _ (omega (arith, same-order r t fr hr ft ht l)))

  pub next-below : scaled t < scaled r → scaled t ≤ scaled (next_down r)
  next-below l = rw (down-next r fr hr, here t ft ht) (scaled_bits_mono _ _ (omega (arith, same-order t r ft ht fr hr l)))

-- ---- the root

-- any two doubles that meet the condition are equal
pub root_unique : (x r s : Float) → Root x r → Root x s → r ≡ s
root_unique x r s a b =
    sym (of_bits-to_bits binary64 r a.double) ∙ ap (of_bits binary64) (one-pattern _ _ _ (at_low r a) (le_of_lt (at_high r a)) (at_low s b) (at_high s b)) ∙ of_bits-to_bits binary64 s b.double
  where
    at_low : (r : Float) → Root x r → square (scaled_bits (to_bits binary64 r - 1) + scaled_bits (to_bits binary64 r)) < 4 * scaled x * 2 ^ 1074
    at_low r a = rw (← down-next r a.double a.finite, ← here r a.double a.finite) a.not_less

    at_high : (r : Float) → Root x r → 4 * scaled x * 2 ^ 1074 < square (scaled_bits (to_bits binary64 r) + scaled_bits (to_bits binary64 r + 1))
    at_high r a = rw (← up_next r a.double a.finite, ← here r a.double a.finite) a.not_greater

-- the double whose pattern meets it
of_pattern : (x : Float) (q : ℕ) → 0 < q → q < 0x7FF0_0000_0000_0000 → Rounds (scaled x) q → Root x (of_bits binary64 q)
of_pattern x q h l n =
    let r = of_bits binary64 q in
    let f = of_bits-fits binary64 q in
    let s = pattern-positive q h l in
    let back : to_bits binary64 r ≡ q = to_bits-of_bits binary64 q (omega arith) (positive_no_nan r s) in
    record {
      double = f;
      finite = s;
      not_less = rw (down-next r f s, here r f s, back) n.not_less;
      not_greater = rw (up_next r f s, here r f s, back) n.not_greater;
    }

pub sqrt-positive : (x : Float) → T (positive x) → sqrt x ≡ of_bits binary64 (root_pattern (scaled x))
unfolding sqrt
sqrt-positive nan h = absurd h
sqrt-positive (inf s) h = absurd h
sqrt-positive (fin true m e) h = absurd h
sqrt-positive (fin false zero e) h = absurd h
sqrt-positive (fin false (suc m) e) h = refl

-- the root of a finite number above 0 meets it
pub sqrt-root : (x : Float) → T (fits binary64 x) → T (positive x) → Root x (sqrt x)
sqrt-root x f h =
    let p = positive-pattern x f h in
    let found = root-found (to_bits binary64 x) p.above_zero p.below-infinity in
    let q = found.pattern in
    let r = of_bits binary64 q in
    let result : r ≡ sqrt x = ap (of_bits binary64) (found.is_found ∙ ap root_pattern (sym p.size)) ∙ sym (sqrt-positive x h) in
    subst (λ (y : Float). Root x y) result (of_pattern x q found.above_zero found.finite (subst (λ (n : ℕ). Rounds n q) (sym p.size) found.rounds))

-- the result fits the format
pub sqrt-fits : (x : Float) → T (fits binary64 x) → T (fits binary64 (sqrt x))
unfolding sqrt
sqrt-fits nan f = nan-fits binary64
sqrt-fits (inf true) f = nan-fits binary64
sqrt-fits (inf false) f = inf-fits binary64 false
sqrt-fits (fin s zero e) f = f
sqrt-fits (fin true (suc m) e) f = nan-fits binary64
sqrt-fits (fin false (suc m) e) f = of_bits-fits binary64 _

-- the special cases
pub sqrt-nan : sqrt nan ≡ nan
unfolding sqrt
sqrt-nan = refl

pub sqrt-infinity : sqrt (inf false) ≡ inf false
unfolding sqrt
sqrt-infinity = refl

pub sqrt_negative : (x : Float) → T (negative x) → sqrt x ≡ nan
unfolding sqrt
sqrt_negative nan h = absurd h
sqrt_negative (inf true) h = refl
sqrt_negative (inf false) h = absurd h
sqrt_negative (fin s zero e) h = absurd h
sqrt_negative (fin true (suc m) e) h = refl
sqrt_negative (fin false (suc m) e) h = absurd h

pub sqrt-zero : (x : Float) → T (is_zero x) → sqrt x ≡ x
unfolding sqrt
sqrt-zero nan h = absurd h
sqrt-zero (inf s) h = absurd h
sqrt-zero (fin s zero e) h = refl
sqrt-zero (fin s (suc m) e) h = absurd h
