-- What the tests of `sqrt_near` say of x: the special cases (`sqrt_of_nan`, `sqrt_of_zero`, `sqrt_of_less`, `sqrt_of_infinity`), and of a finite x above 0 the range
-- of its pattern (`tested_above`, `tested_below`) and its root, by its pattern or by a guess that passed the test (`root_from_pattern`, `root_from_guess`).
use Prim.Native.Nat.{ℕ, zero, suc, ◌<◌}
use native.Mathlib.Omega.{arith}
use mathlib.Core.Path.{◌≡◌, refl, sym, ap, ◌∙◌, subst}
use mathlib.Core.Logic.{◌⊎◌, inl, inr}
use mathlib.Core.Bool.{true, false, not}
use lib.Dec.{T, lt→ltb}
use lib.Ieee.{Float, nan, inf, fin, binary64, fits, is_nan, lt, eq, ne, of_bits, to_bits, div}
use lib.Ieee.Bits.{of_bits-to_bits}
use lib.Ieee.Compare.{differs_from_itself}
use lib.Ieee.Positive.{positive}
use Rattle.kernel.specs.Sqrt.{scaled_bits, root_pattern, sqrt}
use Rattle.kernel.proofs.Doubles.Signs.{negative, is_zero, below-zero, equals_zero}
use Rattle.kernel.proofs.Doubles.Patterns.{equals_itself, positive-pattern}
use Rattle.kernel.proofs.Roots.SquareRoot.{sqrt-nan, sqrt-zero, sqrt_negative, sqrt-infinity, sqrt-positive}

pub sqrt_of_nan : (x : Float) → ne x x ≡ true → x ≡ sqrt x
sqrt_of_nan x e = rw (differs_from_itself x (subst T (sym e) tt)) (sym sqrt-nan)

pub sqrt_of_zero : (x : Float) → eq x (of_bits binary64 0) ≡ true → x ≡ sqrt x
unfolding of_bits
sqrt_of_zero x e = sym (sqrt-zero x (subst T (sym e ∙ equals_zero x) tt))

pub sqrt_of_less : (x : Float) → lt x (of_bits binary64 0) ≡ true → div binary64 (of_bits binary64 0) (of_bits binary64 0) ≡ sqrt x
unfolding of_bits div
sqrt_of_less x e = sym (sqrt_negative x (subst T (sym e ∙ below-zero x) tt))

-- what no test has caught
left : (x : Float) → T (not (is_nan x)) → is_zero x ≡ false → negative x ≡ false → (x ≡ inf false) ⊎ T (positive x)
unfolding is_nan
left nan a b c = absurd a
left (inf true) a b c = absurd (subst T c tt)
left (inf false) a b c = inl refl
left (fin s zero e) a b c = absurd (subst T b tt)
left (fin true (suc m) e) a b c = absurd (subst T c tt)
left (fin false (suc m) e) a b c = inr (lt→ltb 0 (suc m) (omega arith))

module _ (x : Float) (f : fits binary64 x ≡ true) (number : ne x x ≡ false) (nonzero : eq x (of_bits binary64 0) ≡ false) (above : lt x (of_bits binary64 0) ≡ false) where
  held : T (fits binary64 x)
  held = subst T (sym f) tt

  remains : (x ≡ inf false) ⊎ T (positive x)
  unfolding of_bits
  remains = left x (equals_itself x number) (sym (equals_zero x) ∙ nonzero) (sym (below-zero x) ∙ above)

  pub sqrt_of_infinity : to_bits binary64 x ≡ 0x7FF0_0000_0000_0000 → x ≡ sqrt x
  sqrt_of_infinity h = go remains
    where
      go : (x ≡ inf false) ⊎ T (positive x) → x ≡ sqrt x
      go (inl e) = rw e (sym sqrt-infinity)
      go (inr p) = absurd (omega (arith, (positive-pattern x held p).below-infinity))

  module _ (h : to_bits binary64 x ≡ 0x7FF0_0000_0000_0000 → ⊥) where
    is_positive : T (positive x)
    unfolding to_bits
    is_positive = go remains
      where
        go : (x ≡ inf false) ⊎ T (positive x) → T (positive x)
        go (inl e) = absurd (h (ap (to_bits binary64) e))
        go (inr p) = p

    pub tested_above : 0 < to_bits binary64 x
    tested_above = (positive-pattern x held is_positive).above_zero

    pub tested_below : to_bits binary64 x < 0x7FF0_0000_0000_0000
    tested_below = (positive-pattern x held is_positive).below-infinity

    pub root_from_pattern : of_bits binary64 (root_pattern (scaled_bits (to_bits binary64 x))) ≡ sqrt x
    root_from_pattern = ap (λ (n : ℕ). of_bits binary64 (root_pattern n)) (sym (positive-pattern x held is_positive).size) ∙ sym (sqrt-positive x is_positive)

    pub root_from_guess : (g : Float) → fits binary64 g ≡ true → to_bits binary64 g ≡ root_pattern (scaled_bits (to_bits binary64 x)) → g ≡ sqrt x
    root_from_guess g e p = sym (of_bits-to_bits binary64 g (subst T (sym e) tt)) ∙ ap (of_bits binary64) p ∙ root_from_pattern

pub ruleset tested = (sqrt_of_nan, sqrt_of_zero, sqrt_of_less, sqrt_of_infinity, tested_above, tested_below, root_from_pattern)
