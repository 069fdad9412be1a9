-- |y| against a number without a sign, by tests of y and of -y (`first`, `second`, `third`: the three ways out), and the greatest |entry|, which has
-- no sign (`max_abs_has_no_sign`).
use Prim.Native.Nat.{ℕ, zero, suc}
use mathlib.Core.Bool.{Bool, true, false, cond}
use mathlib.Core.List.{List}
use mathlib.Core.Path.{◌≡◌, refl, sym}
use lib.Ieee.{Float, nan, inf, fin, lt, neg, of_bits}
use Rattle.kernel.specs.Number.{abs}
use Rattle.dense.specs.Matrix.{nth, max_abs}

pub abs-abs : (x : Float) → abs (abs x) ≡ abs x
unfolding abs
abs-abs nan = refl
abs-abs (inf s) = refl
abs-abs (fin s m e) = refl

-- |y| against a number without a sign, by y and -y
by_sign : {A : Type 0} (f : Float → A) (z : A) (x y : Float) → cond (lt (abs x) y) (f y) (cond (lt (abs x) (neg y)) (f (neg y)) z) ≡ cond (lt (abs x) (abs y)) (f (abs y)) z
unfolding abs lt neg
by_sign f z nan y = refl
by_sign f z (inf s) nan = refl
by_sign f z (inf s) (inf t) = refl
by_sign f z (inf s) (fin t n d) = refl
by_sign f z (fin s m e) nan = refl
by_sign f z (fin s m e) (inf true) = refl
by_sign f z (fin s m e) (inf false) = refl
by_sign f z (fin s m e) (fin true n d) = refl
by_sign f z (fin s m e) (fin false n d) = refl

-- what follows where |y| is above x, which has no sign, as a test of y, a test of -y, and a rest
abbrev pub tested : {A : Type 0} → (Float → A) → A → Float → Float → A
tested f z x y = cond (lt x y) (f y) (cond (lt x (neg y)) (f (neg y)) z)

pub tested_abs : {A : Type 0} (f : Float → A) (z : A) (x y : Float) → abs x ≡ x → tested f z x y ≡ cond (lt x (abs y)) (f (abs y)) z
tested_abs f z x y e = rw e at (by_sign f z x y)

pub first : {A : Type 0} (f : Float → A) (z : A) (x y : Float) → abs x ≡ x → lt x y ≡ true → f y ≡ cond (lt x (abs y)) (f (abs y)) z
first f z x y e p = rw p at (tested_abs f z x y e)

pub second : {A : Type 0} (f : Float → A) (z : A) (x y : Float) → abs x ≡ x → lt x y ≡ false → lt x (neg y) ≡ true → f (neg y) ≡ cond (lt x (abs y)) (f (abs y)) z
second f z x y e p q = rw (p, q) at (tested_abs f z x y e)

pub third : {A : Type 0} (f : Float → A) (z : A) (x y : Float) → abs x ≡ x → lt x y ≡ false → lt x (neg y) ≡ false → z ≡ cond (lt x (abs y)) (f (abs y)) z
third f z x y e p q = rw (p, q) at (tested_abs f z x y e)

-- a test of y and one of -y make x, which has no sign, at least |y|
pub raised_either : (x y : Float) → abs x ≡ x → cond (lt x (abs y)) (abs y) x ≡ cond (lt x y) y (cond (lt x (neg y)) (neg y) x)
raised_either x y e = sym (tested_abs (λ (z : Float). z) x x y e)

-- ---- the greatest |entry|

pub max_abs_has_no_sign : (a : List Float) (n : ℕ) → abs (max_abs a n) ≡ max_abs a n
unfolding max_abs abs of_bits
max_abs_has_no_sign a zero = refl
max_abs_has_no_sign a (suc n) = either (lt (max_abs a n) (abs (nth a n))) (abs-abs (nth a n)) (max_abs_has_no_sign a n)
  where
    either : (t : Bool) {u v : Float} → abs u ≡ u → abs v ≡ v → abs (cond t u v) ≡ cond t u v
    either true p q = p
    either false p q = q
