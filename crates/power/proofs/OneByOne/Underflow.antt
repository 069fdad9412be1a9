-- `small-vanishes`: the root of the square of a positive double below 2 ^ -511 is below 1e-30.
use Prim.Native.Nat.{ℕ, zero, suc, ◌+◌, ◌*◌, ◌^◌, ◌≤◌, ◌<◌}
use native.Mathlib.Nat.{le_of_lt, lt_of_lt_of_le, lt_irrefl, mul-le-mul, mul-le-mul_right, le_of_mul-le-mul_right}
use native.Mathlib.Omega.{arith}
use native.Mathlib.Decide.{dec_lt}
use mathlib.Core.Bool.{true, false}
use mathlib.Core.Logic.{◌⊎◌, inl, inr}
use mathlib.Core.Path.{◌≡◌, refl, ap}
use lib.Dec.{T, leb→le, lt→ltb}
use lib.Pow.{pow_pos}
use lib.Ieee as Ieee
use lib.Ieee.{Float, nan, inf, fin, binary64, fits, of_bits, lt, le, eq}
use lib.Ieee.Exact.{HasValue}
use lib.Ieee.Fits.{mul-fits}
use lib.Ieee.Order.{le_of_values}
use lib.Ieee.Positive.{positive, values_of_le, mul_mono}
use lib.Ieee.Bits.{is_true}
use Rattle.std.proofs.lemmas.Float.{le_of_lt as float_le_of_lt, le_of_eq as float_le_of_eq}
use Rattle.kernel.specs.Constants.{min_positive, vanishing}
use Rattle.kernel.specs.Number.{mul}
use Rattle.kernel.specs.Sqrt.{square, scaled, next_down, sqrt}
use Rattle.kernel.proofs.Doubles.Patterns.{positive_no_nan}
use Rattle.kernel.proofs.Doubles.Order.{lt_trichotomy, eq-symmetric}
use Rattle.kernel.proofs.Roots.SquareRoot.{sqrt-root}
use Rattle.kernel.proofs.Squares.RootOfSquare.{value_of}
use Rattle.kernel.proofs.Squares.Exacts.{zero-double}
use Rattle.power.proofs.OneByOne.Ones.{measured}

-- doubles are ordered as their sizes
less_of_values : (x y : Float) (a b : ℕ) → T (positive x) → T (positive y) → HasValue x false a (2 ^ 1074) → HasValue y false b (2 ^ 1074) → a < b → lt x y ≡ true
less_of_values x y a b h k v w l = go (lt_trichotomy x y (positive_no_nan x h) (positive_no_nan y k))
  where
    not_above_lem : T (le y x) → lt x y ≡ true
    not_above_lem t = absurd (lt_irrefl a (lt_of_lt_of_le l (le_of_mul-le-mul_right (values_of_le y x b (2 ^ 1074) a (2 ^ 1074) k h w v t) (pow_pos 1074))))

    go : T (lt x y) ⊎ (T (eq x y) ⊎ T (lt y x)) → lt x y ≡ true
    go (inl t) = is_true (lt x y) t
    go (inr (inl t)) = not_above_lem (float_le_of_eq y x (eq-symmetric x y t))
    go (inr (inr t)) = not_above_lem (float_le_of_lt y x t)

bounded : (r n a x m c : ℕ) → square (a + r) < 4 * x * c → x ≤ m → 4 * m * c ≡ n * n → r < n
bounded r n a x m c h l e = go (dec_lt r n)
  where
    go : Dec (r < n) → r < n
    go (yes k) = k
    go (no k) = let p : n ≤ r = omega arith in absurd (omega (arith, mul-le-mul p p, mul-le-mul_right c l))

-- the root of a positive double up to 2 ^ -1022 is below 2 ^ -510, and so below 1e-30
small-root : (x : Float) → T (fits binary64 x) → T (positive x) → T (le x min_positive) → lt (sqrt x) vanishing ≡ true
unfolding of_bits
small-root x f h t =
    let r = sqrt x in
    let root = sqrt-root x f h in
    let size : scaled x ≤ 2 ^ 52 = le_of_mul-le-mul_right (values_of_le x min_positive (scaled x) (2 ^ 1074) (2 ^ 52) (2 ^ 1074) h tt (value_of x f h) (refl, refl) t) (pow_pos 1074) in
    let below : scaled r < 2 ^ 564 = bounded (scaled r) (2 ^ 564) (scaled (next_down r)) (scaled x) (2 ^ 52) (2 ^ 1074) root.not_less size refl in
    less_of_values r vanishing (scaled r) (0x14484BFEEBC2A0 * 2 ^ 922) root.finite tt (value_of r root.double root.finite) (refl, refl)
    (lt_of_lt_of_le below (leb→le _ _ tt))

-- a square up to 2 ^ -1022 has such a root, 0 too
small-square : (x : Float) → T (fits binary64 x) → T (measured x) → T (le x min_positive) → lt (sqrt x) vanishing ≡ true
unfolding le Ieee.lt Ieee.eq of_bits sqrt
small-square nan f u t = absurd u
small-square (inf true) f u t = absurd u
small-square (inf false) f u t = absurd t
small-square (fin true m e) f u t = absurd u
small-square (fin false zero e) f u t = ap (λ (y : Float). lt (sqrt y) vanishing) (zero-double e f)
small-square (fin false (suc m) e) f u t = small-root (fin false (suc m) e) f (lt→ltb 0 (suc m) (omega arith)) t

-- 2 ^ -511
abbrev edge : Float
edge = of_bits binary64 0x2000_0000_0000_0000

pub small-vanishes : (s : Float) → T (fits binary64 s) → T (positive s) → T (measured (mul s s)) → scaled s < 2 ^ 563 → lt (sqrt (mul s s)) vanishing ≡ true
unfolding of_bits Ieee.mul
small-vanishes s f h u l =
    let near : T (le s edge) = le_of_values s edge (scaled s) (2 ^ 1074) (2 ^ 563) (2 ^ 1074) (pow_pos 1074) (pow_pos 1074) (value_of s f h) (refl, refl) (mul-le-mul_right (2 ^ 1074) (le_of_lt l)) in
    small-square (mul s s) (mul-fits binary64 s s) u (mul_mono binary64 s edge s edge h tt h tt near near)
