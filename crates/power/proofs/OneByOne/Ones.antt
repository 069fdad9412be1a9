-- 1 by 1 matrices: ways to an infinite condition number. `refused-ratio`: every solution is refused. `vanished_ratio`: the first product vanishes. `large-ratio`: the root of the
-- square is exact, so that the first vector stays, and no unit vector is a start (`no_start`, `parallel_ratio`). `small-ratio`: the root is below 1e-30.
use Prim.Native.Nat.{ℕ, zero, suc, ◌*◌, ◌^◌, ◌≤◌}
use native.Mathlib.Omega.{arith}
use mathlib.Core.Bool.{Bool, true, false, not, cond}
use mathlib.Core.List.{List, [], ◌∷◌}
use mathlib.Core.Path.{◌≡◌, refl, sym, ap, ◌∙◌, subst}
use borrow.Author.Tests.{le-ltb}
use lib.Dec.{T, ltb}
use lib.Ieee as Ieee
use lib.IntN.{ℤ, pos}
use lib.Ieee.{Float, nan, inf, fin, binary64, fits, of_bits, round, lt, le}
use lib.Ieee.Fits.{round_is, mul-fits}
use lib.Ieee.Positive.{num, den, den_pos, positive, own_value, mul_at}
use lib.Ieee.Scale.{finite}
use Rattle.kernel.specs.Constants.{nought, one, rel_tol, vanishing, infinity}
use Rattle.kernel.specs.Number.{add, mul, div}
use Rattle.kernel.specs.Lists.{tabulate}
use Rattle.kernel.specs.Sqrt.{scaled, sqrt}
use Rattle.dense.specs.Matrix.{sum_from, nth, norm}
use lib.ListN.{length}
use Rattle.pivoting.specs.Solve.{solved}
use Rattle.power.specs.Power.{advanced, vanishes, Eigenpair, eigenpair, even_vector, iterated, dominant}
use Rattle.power.specs.Condition.{max_rounds, iterate, is_refused, normalized, deflated, start_index, iterated_ratio, ratio_from, ratio_of}
use Rattle.power.proofs.Iteration as power
use Rattle.power.proofs.Ratios as inverse
use Rattle.kernel.proofs.Squares.Exacts.{unsigned, zero_plus, times-one, over_itself}
use Rattle.linalg.specs.Products.{times}
use Rattle.kernel.proofs.Squares.RootOfSquare.{root_of_square}

-- ---- ways to infinity

on_left : (b : Bool) {y : Float} → y ≡ infinity → cond b infinity y ≡ infinity
on_left true e = refl
on_left false e = e

on_right : (b : Bool) {y : Float} → y ≡ infinity → cond b y infinity ≡ infinity
on_right true e = e
on_right false e = refl

-- every solution is refused
module _ (y : Float) (no : (x : List Float) → is_refused (solved (y ∷ []) x 1 1) ≡ true) where
  refused-rounds : (sigma : Float) (x : List Float) → length x ≡ 1 → iterated_ratio (y ∷ []) 1 sigma (iterate x nought) ≡ infinity
  refused-rounds sigma x w =
      let start : inverse.Before (y ∷ []) 1 (iterate x nought) 0 x nought = inverse.begun w in
      sym (inverse.ends_failed start sigma (omega arith) (inverse.fails_refused start (no x)) refl)

  refused-from : (sigma : Float) (v : List Float) → ratio_from (y ∷ []) 1 sigma v ≡ infinity
  unfolding ratio_from
  refused-from sigma v =
      let e = deflated v 1 (start_index v 1) in
      on_right (ltb (start_index v 1) 1) (refused-rounds sigma (normalized e 1) (inverse.length-normalized e 1 refl))

  pub refused-ratio : (p : Eigenpair) → ratio_of (y ∷ []) 1 p ≡ infinity
  unfolding ratio_of
  refused-ratio p = on_left (le p.value nought) (refused-from (sqrt p.value) p.vector)

pub refused-nan : (x : List Float) → is_refused (solved (nan ∷ []) x 1 1) ≡ true
unfolding solved of_bits Ieee.div Ieee.lt
refused-nan x = refl

pub refused_infinite : (x : List Float) → is_refused (solved (inf false ∷ []) x 1 1) ≡ true
unfolding solved of_bits Ieee.div Ieee.lt
refused_infinite x = refl

-- the first unit vector is the dominant one
no_start : start_index (one ∷ []) 1 ≡ 1
unfolding start_index of_bits Ieee.add Ieee.sub Ieee.mul Ieee.lt Ieee.neg
no_start = refl

parallel_from : (g : List Float) (sigma : Float) → ratio_from g 1 sigma (one ∷ []) ≡ infinity
unfolding ratio_from
parallel_from g sigma = past (start_index (one ∷ []) 1) (iterated_ratio g 1 sigma (iterate (normalized (deflated (one ∷ []) 1 (start_index (one ∷ []) 1)) 1) nought)) no_start
  where
    past : (k : ℕ) (y : Float) → k ≡ 1 → cond (ltb k 1) y infinity ≡ infinity
    past k y e = rw (e, le-ltb 1 1 (omega arith))

parallel_ratio : (g : List Float) (lambda : Float) → ratio_of g 1 (eigenpair (one ∷ []) lambda) ≡ infinity
unfolding ratio_of
parallel_ratio g lambda = on_left (le lambda nought) (parallel_from g (sqrt lambda))

-- the eigenvalue is 0.0
pub zero-ratio : (g v : List Float) → ratio_of g 1 (eigenpair v nought) ≡ infinity
unfolding Ieee.le of_bits
zero-ratio g v = sym (inverse.ratio_low g 1 nought v refl refl)

pub even_one : even_vector 1 ≡ one ∷ []
unfolding even_vector of_bits Ieee.div
even_one = refl

-- the product with the first vector vanishes
pub vanished_ratio : (g : List Float) → vanishes g 1 (one ∷ []) ≡ true → ratio_of g 1 (dominant g 1 max_rounds rel_tol) ≡ infinity
unfolding dominant
vanished_ratio g h =
    let start : power.Before g 1 max_rounds rel_tol (one ∷ []) 0 (one ∷ []) (times g (one ∷ []) 1 1) = power.begun refl refl in
    ap (λ (v : List Float). ratio_of g 1 (iterated g 1 max_rounds rel_tol v)) even_one
    ∙ ap (ratio_of g 1) (sym (power.ends_vanished start (omega arith) h))
    ∙ zero-ratio g (one ∷ [])

-- the first vector stays
fixed_ratio : (g : List Float) → advanced g 1 (one ∷ []) ≡ one ∷ [] → ratio_of g 1 (dominant g 1 max_rounds rel_tol) ≡ infinity
unfolding dominant
fixed_ratio g h =
    let p = iterated g 1 max_rounds rel_tol (one ∷ []) in
    ap (λ (v : List Float). ratio_of g 1 (iterated g 1 max_rounds rel_tol v)) even_one
    ∙ ap (λ (v : List Float). ratio_of g 1 (eigenpair v p.value)) (power.stays g 1 max_rounds rel_tol (one ∷ []) h)
    ∙ parallel_ratio g p.value

-- ---- a square from 0 up

-- a number from 0 up, or +infinity
abbrev pub measured : Float → Bool
measured nan = false
measured (inf t) = not t
measured (fin t m e) = not t

pub unsigned_of : (x : Float) → T (measured x) → T (unsigned x)
unsigned_of nan k = absurd k
unsigned_of (inf t) k = k
unsigned_of (fin t m e) k = k

units_measured : (q k : ℕ) → T (measured (Ieee.units binary64 false q k))
unfolding Ieee.units Ieee.odd
units_measured zero k = go (ltb (0 * 2 ^ k) (2 ^ 2098))
  where
    go : (b : Bool) → T (measured (cond b (fin false zero (pos zero)) (inf false)))
    go true = tt
    go false = tt
units_measured (suc q) k = go (ltb (suc q * 2 ^ k) (2 ^ 2098)) _ _
  where
    go : (b : Bool) (m : ℕ) (e : ℤ) → T (measured (cond b (fin false m e) (inf false)))
    go true m e = tt
    go false m e = tt

pub round_measured : (a c : ℕ) → T (measured (round binary64 false a c))
round_measured a c = subst (λ (x : Float). T (measured x)) (sym (round_is binary64 false a c)) (units_measured _ _)

module _ (s : Float) (f : T (fits binary64 s)) (h : T (positive s)) where
  abbrev g : List Float
  g = s ∷ []

  abbrev first : List Float
  first = one ∷ []

  itself : T (unsigned s)
  itself = go s h
    where
      go : (x : Float) → T (positive x) → T (unsigned x)
      go nan k = tt
      go (inf t) k = absurd k
      go (fin true m e) k = absurd k
      go (fin false m e) k = tt

  pub squared : T (measured (mul s s))
  squared =
      let v = own_value s h in
      subst (λ (x : Float). T (measured x)) (sym (mul_at binary64 s s (num s) (den s) (num s) (den s) h h (den_pos s) (den_pos s) v v)) (round_measured _ _)

  pub product : times g first 1 1 ≡ s ∷ []
  unfolding times tabulate sum_from
  product = ap (λ (z : Float). add nought z ∷ []) (times-one s f h) ∙ ap (λ (z : Float). z ∷ []) (zero_plus s f itself)

  pub length_of : norm (s ∷ []) 1 ≡ sqrt (mul s s)
  unfolding sum_from
  length_of = ap sqrt (zero_plus (mul s s) (mul-fits binary64 s s) (unsigned_of (mul s s) squared))

  pub vanish_test : vanishes g 1 first ≡ lt (sqrt (mul s s)) vanishing
  unfolding vanishes
  vanish_test = ap (λ (w : List Float). lt (norm w 1) vanishing) product ∙ ap (λ (z : Float). lt z vanishing) length_of

  pub advanced_to : (z : Float) → sqrt (mul s s) ≡ z → advanced g 1 first ≡ div s z ∷ []
  unfolding advanced tabulate
  advanced_to z e = ap (λ (w : List Float). div (nth w 0) (norm w 1) ∷ []) product ∙ ap (λ (y : Float). div s y ∷ []) (length_of ∙ e)

  -- the root of the square is s
  pub large-ratio : 2 ^ 563 ≤ scaled s → T (finite (mul s s)) → ratio_of g 1 (dominant g 1 max_rounds rel_tol) ≡ infinity
  large-ratio l b = fixed_ratio g (advanced_to s (root_of_square s f h l b) ∙ ap (λ (z : Float). z ∷ []) (over_itself s h))

  pub small-ratio : lt (sqrt (mul s s)) vanishing ≡ true → ratio_of g 1 (dominant g 1 max_rounds rel_tol) ≡ infinity
  small-ratio e = vanished_ratio g (vanish_test ∙ e)
