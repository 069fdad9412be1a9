-- `one_by_one`: every 1 by 1 matrix has the condition number +infinity. A NaN and an infinity are refused by the solver; a positive square s leaves the first
-- vector as it is, since √(s · s) = s, or vanishes, or overflows.
pub mod Ones
pub mod Underflow
pub mod Overflow
use Prim.Native.Nat.{ℕ, zero, suc, ◌*◌, ◌^◌, ◌≤◌}
use native.Mathlib.Nat.{lt_of_not-le}
use native.Mathlib.Omega.{arith}
use native.Mathlib.Decide.{dec_le}
use mathlib.Core.Bool.{true, false}
use mathlib.Core.List.{List, [], ◌∷◌}
use mathlib.Core.Logic.{◌⊎◌, inl, inr}
use mathlib.Core.Path.{◌≡◌, refl, ap, ◌∙◌}
use lib.Dec.{T, lt→ltb}
use lib.Ieee as Ieee
use lib.Ieee.{Float, nan, inf, fin, binary64, fits, of_bits, round, lt, up, down}
use lib.Ieee.Fits.{mul-fits}
use lib.Ieee.Positive.{positive}
use lib.Ieee.Scale.{finite}
use Rattle.kernel.specs.Constants.{nought, one, rel_tol, infinity}
use Rattle.kernel.specs.Number.{add, mul}
use Rattle.kernel.specs.Sqrt.{scaled}
use Rattle.power.specs.Power.{vanishes, dominant}
use Rattle.power.specs.Condition.{max_rounds, ratio_of, condition, condition_number}
use Rattle.kernel.proofs.Squares.Exacts.{unsigned, zero-double, zero_plus}
use Rattle.power.proofs.OneByOne.Ones.{measured, unsigned_of, round_measured, squared, large-ratio, small-ratio, refused-ratio, refused-nan, refused_infinite, vanished_ratio}
use Rattle.power.proofs.OneByOne.Underflow.{small-vanishes}
use Rattle.linalg.specs.Products.{gram}
use Rattle.power.proofs.OneByOne.Overflow.{over-ratio}
use Rattle.std.specs.Prelude.{Ok, Err}

cases : (x : Float) → T (measured x) → T (finite x) ⊎ (x ≡ inf false)
cases nan u = absurd u
cases (inf true) u = absurd u
cases (inf false) u = inr refl
cases (fin t m e) u = inl tt

positive-ratio : (s : Float) → T (fits binary64 s) → T (positive s) → ratio_of (s ∷ []) 1 (dominant (s ∷ []) 1 max_rounds rel_tol) ≡ infinity
positive-ratio s f h = go (dec_le (2 ^ 563) (scaled s)) (cases (mul s s) (squared s f h))
  where
    go : Dec (2 ^ 563 ≤ scaled s) → T (finite (mul s s)) ⊎ (mul s s ≡ inf false) → ratio_of (s ∷ []) 1 (dominant (s ∷ []) 1 max_rounds rel_tol) ≡ infinity
    go (yes l) (inl b) = large-ratio s f h l b
    go (yes l) (inr e) = over-ratio s f h e
    go (no l) d = small-ratio s f h (small-vanishes s f h (squared s f h) (lt_of_not-le l))

zero-vanishes : vanishes (nought ∷ []) 1 (one ∷ []) ≡ true
unfolding vanishes Ieee.add Ieee.mul Ieee.lt of_bits
zero-vanishes = refl

by_size : (s : Float) → T (fits binary64 s) → T (unsigned s) → ratio_of (s ∷ []) 1 (dominant (s ∷ []) 1 max_rounds rel_tol) ≡ infinity
by_size nan f u = refused-ratio nan refused-nan (dominant (nan ∷ []) 1 max_rounds rel_tol)
by_size (inf true) f u = absurd u
by_size (inf false) f u = refused-ratio (inf false) refused_infinite (dominant (inf false ∷ []) 1 max_rounds rel_tol)
by_size (fin true m e) f u = absurd u
by_size (fin false zero e) f u = ap (λ (y : Float). ratio_of (y ∷ []) 1 (dominant (y ∷ []) 1 max_rounds rel_tol)) (zero-double e f) ∙ vanished_ratio (nought ∷ []) zero-vanishes
by_size (fin false (suc m) e) f u = positive-ratio (fin false (suc m) e) f (lt→ltb 0 (suc m) (omega arith))

rounded_square : (a c : ℕ) → T (unsigned (round binary64 false a c))
rounded_square a c = unsigned_of (round binary64 false a c) (round_measured a c)

own_square : (w : Float) → T (unsigned (mul w w))
unfolding Ieee.mul
own_square nan = tt
own_square (inf true) = tt
own_square (inf false) = tt
own_square (fin true m e) = rounded_square (m * up e * (m * up e)) (down e * down e)
own_square (fin false m e) = rounded_square (m * up e * (m * up e)) (down e * down e)

gram-one : (w : Float) → gram (w ∷ []) 1 1 ≡ mul w w ∷ []
unfolding gram
gram-one w = ap (λ (z : Float). z ∷ []) (zero_plus (mul w w) (mul-fits binary64 w w) (own_square w))

alone : (w : Float) → condition (w ∷ []) 1 ≡ infinity
unfolding condition
alone w = ap (λ (g : List Float). ratio_of g 1 (dominant g 1 max_rounds rel_tol)) (gram-one w) ∙ by_size (mul w w) (mul-fits binary64 w w) (own_square w)

pub one_by_one : (w : Float) → condition_number (w ∷ []) 1 ≡ Ok infinity
unfolding condition_number
one_by_one w = ap Ok (alone w)
