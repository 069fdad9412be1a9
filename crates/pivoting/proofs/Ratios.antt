-- |x| / s is |x / s| where s is a norm that is not too small (`abs-ratio`).
use Prim.Native.Nat.{ℕ, zero, suc, ◌+◌, ◌*◌, ◌-◌, ◌^◌, ◌/◌, ◌%◌, compare, ◌<◌, ◌≤◌}
use native.Mathlib.Omega.{arith}
use native.Mathlib.Nat.{mul-le-mul}
use mathlib.Core.Bool.{Bool, true, false, cond}
use mathlib.Core.Path.{◌≡◌, refl, sym, ◌∙◌, subst}
use lib.Dec.{T, eqb, ltb}
use borrow.Author.Tests.{lt-ltb}
use lib.IntN.{ℤ, negsuc}
use lib.Ieee.Fits.{up_pos, down_pos}
use lib.Ieee as Ieee
use lib.Ieee.{Float, nan, inf, fin, binary64, prec, emax, low, size, nearest, odd, units, round, up, down, lt, of_bits}
use Rattle.kernel.specs.Number.{abs, div}
use Rattle.kernel.specs.Constants.{min_scale}

abs-odd : (d : ℕ) (s : Bool) (q k l : ℕ) → abs (odd d s q k l) ≡ odd d false q k l
unfolding abs odd
abs-odd d s zero k l = refl
abs-odd d s (suc q) k l = refl

abs-units : (s : Bool) (q k : ℕ) → abs (units binary64 s q k) ≡ units binary64 false q k
unfolding abs units
abs-units s q k = go (ltb (q * 2 ^ k) (2 ^ (low binary64 + suc (emax binary64))))
  where
    go : (t : Bool) → abs (cond t (odd (suc (prec binary64)) s q k (low binary64)) (inf s)) ≡ cond t (odd (suc (prec binary64)) false q k (low binary64)) (inf false)
    go true = abs-odd (suc (prec binary64)) s q k (low binary64)
    go false = refl

abs-round : (s : Bool) (a b : ℕ) → abs (round binary64 s a b) ≡ round binary64 false a b
unfolding round
abs-round s a b =
    let n = a * 2 ^ low binary64 in
    let k = size (n / b) - prec binary64 in
    let u = b * 2 ^ k in
    abs-units s (nearest (n / u) (compare (n % u * 2) u)) k

-- a / b with a sign: a NaN or an infinity where b is 0
abs_quotient : (s y z : Bool) (a b : ℕ) → cond y (cond z nan (inf false)) (round binary64 false a b) ≡ abs (cond y (cond z nan (inf s)) (round binary64 s a b))
unfolding abs
abs_quotient s true true a b = refl
abs_quotient s true false a b = refl
abs_quotient s false z a b = sym (abs-round s a b)

-- |x| / s is |x / s|, for an s without a sign
abs-div : (x s : Float) → div (abs x) (abs s) ≡ abs (div x (abs s))
unfolding abs Ieee.div
abs-div nan s = refl
abs-div (inf u) nan = refl
abs-div (inf u) (inf t) = refl
abs-div (inf u) (fin t n d) = refl
abs-div (fin u m e) nan = refl
abs-div (fin u m e) (inf t) = refl
abs-div (fin true m e) (fin t n d) = abs_quotient true (eqb n 0) (eqb m 0) (m * up e * down d) (n * up d * down e)
abs-div (fin false m e) (fin t n d) = abs_quotient false (eqb n 0) (eqb m 0) (m * up e * down d) (n * up d * down e)

-- a negative number is below a positive one
negative_below : (m n : ℕ) (k d : ℤ) → 0 < n → lt (fin true m k) (fin false n d) ≡ true
unfolding lt
negative_below m n k d h = lt-ltb 0 (m * up k * down d + n * up d * down k) (omega (arith, positive))
  where
    positive : 1 * 1 * 1 ≤ n * up d * down k
    positive = mul-le-mul (mul-le-mul h (up_pos d)) (down_pos k)

-- a norm that is not too small has no sign
scale-abs : (s : Float) → lt s min_scale ≡ false → abs s ≡ s
unfolding abs lt of_bits
scale-abs nan e = refl
scale-abs (inf true) e = absurd (subst T e tt)
scale-abs (inf false) e = refl
scale-abs (fin false m k) e = refl
scale-abs (fin true m k) e = absurd (subst T (sym (negative_below m 7371020360979573 k (negsuc 550) (omega arith)) ∙ e) tt)

pub abs-ratio : (x s : Float) → lt s min_scale ≡ false → abs (div x s) ≡ div (abs x) s
abs-ratio x s e = sym (rw (scale-abs s e) at (abs-div x s))
