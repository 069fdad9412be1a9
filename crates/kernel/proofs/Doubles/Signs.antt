-- What the comparisons with 0.0 tell of a number. `below-zero`: -infinity and the finite numbers with the sign - that are no zero are below it; `equals_zero`: the
-- zeros of both signs equal it. A NaN passes neither test.
use Prim.Native.Nat.{zero, suc, ◌+◌, ◌*◌}
use native.Mathlib.Omega.{arith}
use mathlib.Core.Path.{◌≡◌, refl}
use mathlib.Core.Bool.{Bool, true, false, ◌&&◌, ◌||◌, beq}
use lib.IntN.{pos}
use lib.Ieee.{Float, nan, inf, fin, lt, eq, up, down}
use lib.Ieee.Fits.{up_pos}
use borrow.Author.Tests.{lt-ltb, le-ltb, eq-eqb, ne_eqb}

abbrev pub +0 : Float
+0 = fin false 0 (pos 0)

abbrev pub negative : Float → Bool
negative nan = false
negative (inf s) = s
negative (fin s zero e) = false
negative (fin s (suc m) e) = s

abbrev pub is_zero : Float → Bool
is_zero nan = false
is_zero (inf s) = false
is_zero (fin s zero e) = true
is_zero (fin s (suc m) e) = false

pub below-zero : (x : Float) → lt x +0 ≡ negative x
unfolding lt
below-zero nan = refl
below-zero (inf s) = refl
below-zero (fin true zero e) = le-ltb 0 (0 * up e * 1 + 0 * 1 * down e) (omega arith)
below-zero (fin true (suc m) e) = lt-ltb 0 (suc m * up e * 1 + 0 * 1 * down e) (omega (arith, up_pos e))
below-zero (fin false zero e) = le-ltb (0 * up e * 1) (0 * 1 * down e) (omega arith)
below-zero (fin false (suc m) e) = le-ltb (suc m * up e * 1) (0 * 1 * down e) (omega arith)

pub equals_zero : (x : Float) → eq x +0 ≡ is_zero x
unfolding eq
equals_zero nan = refl
equals_zero (inf s) = refl
equals_zero (fin s zero e) = rw (eq-eqb (0 * up e * 1) (0 * 1 * down e) (omega arith), eq-eqb (0 * up e * 1) 0 (omega arith)) (either (beq s false))
  where
    either : (b : Bool) → (true && (b || true)) ≡ true
    either true = refl
    either false = refl
equals_zero (fin s (suc m) e) = rw (ne_eqb (suc m * up e * 1) (0 * 1 * down e) (λ h. omega (arith, up_pos e)))
