-- 1 by 1 matrices whose square overflows. `over-ratio`: the second vector is 0.0, and its product vanishes.
use native.Mathlib.Omega.{arith}
use mathlib.Core.Bool.{Bool, true, false, cond}
use mathlib.Core.List.{List, [], ◌∷◌}
use mathlib.Core.Path.{◌≡◌, refl, sym, ap, ◌∙◌}
use lib.Dec.{T}
use lib.Ieee as Ieee
use lib.Ieee.{Float, nan, inf, fin, binary64, fits, of_bits, lt, le}
use lib.Ieee.Positive.{positive}
use mathlib.Core.Bool.{and-false}
use Rattle.kernel.specs.Constants.{nought, one, minus_one, rel_tol, vanishing, infinity}
use Rattle.kernel.specs.Number.{add, sub, mul, div, abs}
use Rattle.kernel.specs.Sqrt.{sqrt}
use Rattle.kernel.proofs.Roots.SquareRoot.{sqrt-infinity}
use Rattle.dense.specs.Matrix.{sum_from, nth, dot_product, norm}
use Rattle.kernel.specs.Lists.{tabulate}
use Rattle.power.specs.Power.{residual, advanced, sign_of, round_value, vanishes, is_small, converges, iterated, dominant}
use Rattle.power.specs.Condition.{max_rounds, ratio_of}
use Rattle.power.proofs.Iteration as power
use Rattle.kernel.proofs.Squares.Exacts.{times_zero}
use Rattle.linalg.specs.Products.{times}
use Rattle.power.proofs.OneByOne.Ones.{product, length_of, vanish_test, advanced_to, even_one, zero-ratio}

over-infinity : (s : Float) → T (positive s) → div s (inf false) ≡ nought
unfolding Ieee.div of_bits
over-infinity nan h = absurd h
over-infinity (inf t) h = absurd h
over-infinity (fin true m e) h = absurd h
over-infinity (fin false m e) h = refl

minus_nan : (y : Float) → sub y nan ≡ nan
unfolding Ieee.sub Ieee.add Ieee.neg
minus_nan nan = refl
minus_nan (inf t) = refl
minus_nan (fin t m e) = refl

infinite_times-zero : (b : Bool) → mul (mul (cond b one minus_one) (inf false)) nought ≡ nan
unfolding Ieee.mul of_bits
infinite_times-zero true = refl
infinite_times-zero false = refl

nan-root : sqrt (add nought (mul nan nan)) ≡ nan
unfolding sqrt Ieee.add Ieee.mul of_bits
nan-root = refl

never_small : (tol lambda : Float) → is_small tol lambda nan ≡ false
unfolding is_small Ieee.div Ieee.lt
never_small tol lambda = and-false (lt vanishing (abs lambda))

module _ (s : Float) (f : T (fits binary64 s)) (h : T (positive s)) (over : mul s s ≡ inf false) where
  abbrev g : List Float
  g = s ∷ []

  abbrev first : List Float
  first = one ∷ []

  abbrev second : List Float
  second = nought ∷ []

  root : sqrt (mul s s) ≡ inf false
  root = ap sqrt over ∙ sqrt-infinity

  stepped : advanced g 1 first ≡ second
  stepped = advanced_to s f h (inf false) root ∙ ap (λ (z : Float). z ∷ []) (over-infinity s h)

  stands : vanishes g 1 first ≡ false
  unfolding Ieee.lt of_bits
  stands = vanish_test s f h ∙ ap (λ (z : Float). lt z vanishing) root

  flat : times g second 1 1 ≡ second
  unfolding times tabulate sum_from Ieee.add of_bits
  flat = ap (λ (z : Float). add nought z ∷ []) (times_zero s h)

  vanished : vanishes g 1 second ≡ true
  unfolding vanishes sum_from sqrt Ieee.add Ieee.mul Ieee.lt of_bits
  vanished = ap (λ (w : List Float). lt (norm w 1) vanishing) flat

  value : round_value g 1 first ≡ mul (sign_of (dot_product (times g first 1 1) first 1)) (inf false)
  unfolding round_value
  value = ap (mul (sign_of (dot_product (times g first 1 1) first 1))) (ap (λ (w : List Float). norm w 1) (product s f h) ∙ length_of s f h ∙ root)

  no_residual : (lambda : Float) → mul lambda nought ≡ nan → residual g 1 lambda second ≡ nan
  unfolding residual sum_from tabulate
  no_residual lambda e = ap (λ (d : Float). sqrt (add nought (mul d d))) (ap (sub (nth (times g second 1 1) 0)) e ∙ minus_nan (nth (times g second 1 1) 0)) ∙ nan-root

  open_round : converges g 1 rel_tol first ≡ false
  unfolding converges sign_of
  open_round =
      let lambda = round_value g 1 first in
      let d = dot_product (times g first 1 1) first 1 in
      ap (λ (u : List Float). is_small rel_tol lambda (residual g 1 lambda u)) stepped
      ∙ ap (is_small rel_tol lambda) (no_residual lambda (ap (λ (z : Float). mul z nought) value ∙ infinite_times-zero (le nought d)))
      ∙ never_small rel_tol lambda

  pub over-ratio : ratio_of g 1 (dominant g 1 max_rounds rel_tol) ≡ infinity
  unfolding dominant
  over-ratio =
      let start : power.Before g 1 max_rounds rel_tol first 0 first (times g first 1 1) = power.begun refl refl in
      let after : power.Before g 1 max_rounds rel_tol first 1 second (times g second 1 1) =
      power.goes_on start (omega arith) stands (record { converged = refl; vector = sym stepped; product = refl }) open_round
      in
      ap (λ (v : List Float). ratio_of g 1 (iterated g 1 max_rounds rel_tol v)) even_one
      ∙ ap (ratio_of g 1) (sym (power.ends_vanished after (omega arith) vanished))
      ∙ zero-ratio g second
