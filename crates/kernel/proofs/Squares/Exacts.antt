-- Operations that are exact on doubles from 0 up. `own_round`: a positive double is its own rounding; `zero_plus`: 0.0 + x is x; `times-one`, `over_itself`,
-- `times_zero`: x · 1.0 is x, x / x is 1.0, x · 0.0 is 0.0.
use Prim.Native.Nat.{ℕ, zero, suc, ◌+◌, ◌-◌, ◌*◌, ◌/◌, ◌%◌, ◌^◌, ◌≤◌, ◌<◌}
use native.Mathlib.Nat.{eq_of_mul-eq-mul_right, mul_right_comm, mul-zero, mul-one, one-mul, mul-pos, mod-lt, lt_of_lt_of_le}
use native.Mathlib.Omega.{arith}
use native.Mathlib.Decide.{dec_lt}
use mathlib.Core.Bool.{Bool, true, false, not}
use mathlib.Core.Path.{◌≡◌, refl, sym, ap, ◌∙◌}
use borrow.Author.Tests.{ne_eqb}
use lib.Dec.{T, eqb, eqb→eq, lt→ltb}
use lib.IntN.{ℤ, pos, negsuc}
use lib.Pow.{pow_pos, pow_mono, shl_lt}
use lib.Ieee as Ieee
use lib.Ieee.{Float, nan, inf, fin, binary64, fits, of_bits, to_bits, round, up, down}
use lib.Ieee.Bits.{of_bits-to_bits}
use lib.Ieee.Exact.{HasValue, round_exact}
use lib.Ieee.Fits.{round-fits, up_pos, down_pos}
use lib.Ieee.Positive.{num, den, den_pos, positive, own_value, value→cross, positive_of_value, value_pos, mul_at}
use lib.Ieee.Scale.{round_same}
use Rattle.std.proofs.lemmas.Bool.{cond-false}
use Rattle.kernel.specs.Constants.{nought, one}
use Rattle.kernel.specs.Number.{add, mul, div}
use Rattle.kernel.specs.Sqrt.{scaled, scaled_bits}
use Rattle.kernel.proofs.Doubles.Patterns.{value-scaled, positive-pattern}
use Rattle.kernel.proofs.Doubles.PatternOrder.{scaled_bits-low, scaled_bits-at, split_pattern, scaled_bits_grows, scaled_bits_mono}
use Rattle.kernel.proofs.Squares.RootOfSquare.{value_of}

-- ---- doubles of one size are one

one-pattern : (p q : ℕ) → scaled_bits p ≡ scaled_bits q → p ≡ q
one-pattern p q e = go (dec_lt p q) (dec_lt q p)
  where
    less : (a b : ℕ) → a < b → scaled_bits a < scaled_bits b
    less a b h = lt_of_lt_of_le (scaled_bits_grows a) (scaled_bits_mono (a + 1) b (omega arith))

    go : Dec (p < q) → Dec (q < p) → p ≡ q
    go (yes l) d = absurd (omega (arith, less p q l))
    go (no l) (yes g) = absurd (omega (arith, less q p g))
    go (no l) (no g) = omega arith

one-double : (x y : Float) → T (fits binary64 x) → T (fits binary64 y) → T (positive x) → T (positive y) → scaled x ≡ scaled y → x ≡ y
one-double x y f g h k e =
    sym (of_bits-to_bits binary64 x f)
    ∙ ap (of_bits binary64) (one-pattern (to_bits binary64 x) (to_bits binary64 y) (sym (positive-pattern x f h).size ∙ e ∙ (positive-pattern y g k).size))
    ∙ of_bits-to_bits binary64 y g

-- ---- a positive double is its own rounding

-- a size of 53 digits and a power of two
record Split (n : ℕ) : Type 0 where
  digits : ℕ
  power : ℕ
  few : digits < 2 ^ 53
  whole : n ≡ digits * 2 ^ power
  reach : power ≤ 2045

split : (p : ℕ) → p < 0x7FF0_0000_0000_0000 → Split (scaled_bits p)
split p h = go (dec_lt p (2 ^ 52))
  where
    go : Dec (p < 2 ^ 52) → Split (scaled_bits p)
    go (yes l) = record { digits = p; power = 0; few = omega arith; whole = scaled_bits-low p l ∙ sym (mul-one p); reach = omega arith }
    go (no l) =
        let low : p % 2 ^ 52 < 2 ^ 52 = mod-lt p (pow_pos 52) in
        let high : 2 ^ 52 ≤ p = omega arith in
        record {
          digits = 2 ^ 52 + p % 2 ^ 52;
          power = p / 2 ^ 52 - 1;
          few = omega arith;
          whole = ap scaled_bits (sym (split_pattern p high)) ∙ scaled_bits-at (p / 2 ^ 52 - 1) (2 ^ 52 + p % 2 ^ 52) (omega arith) (omega arith);
          reach = omega arith;
        }

-- the size of a double that is a / d
sized : (y : Float) (a d n : ℕ) → 0 < d → HasValue y false a d → a * 2 ^ 1074 ≡ n * d → scaled y ≡ n
sized nan a d n h v e = absurd v
sized (inf t) a d n h v e = absurd v
sized (fin t m k) a d n h v e = value-scaled (fin t m k) false n (v.0, eq_of_mul-eq-mul_right d h (m * up k * 2 ^ 1074) (n * down k) (cross (m * up k) (2 ^ 1074) d a n (down k) v.1 e))
  where
    cross : (x c d a n g : ℕ) → x * d ≡ a * g → a * c ≡ n * d → x * c * d ≡ n * g * d
    cross x c d a n g p q = mul_right_comm x c d ∙ ap (λ (z : ℕ). z * c) p ∙ mul_right_comm a g c ∙ ap (λ (z : ℕ). z * g) q ∙ mul_right_comm n d g

module _ (x : Float) (f : T (fits binary64 x)) (h : T (positive x)) where
  parts : Split (scaled_bits (to_bits binary64 x))
  parts = split (to_bits binary64 x) (positive-pattern x f h).below-infinity

  crossed : num x * 2 ^ 1074 ≡ scaled x * den x
  crossed = value→cross x (scaled x) (2 ^ 1074) (value_of x f h)

  rounded : HasValue (round binary64 false (num x) (den x)) false (num x) (den x)
  rounded =
      round_exact binary64 false (num x) (den x) parts.digits parts.power (den_pos x) parts.few
      (lt_of_lt_of_le (shl_lt 53 parts.power parts.few) (pow_mono {j = 2098} (omega (arith, parts.reach))))
      (crossed ∙ ap (λ (z : ℕ). z * den x) ((positive-pattern x f h).size ∙ parts.whole))

  pub own_round : round binary64 false (num x) (den x) ≡ x
  own_round =
      let y = round binary64 false (num x) (den x) in
      one-double y x (round-fits binary64 false (num x) (den x)) f
      (positive_of_value y (num x) (den x) rounded (value_pos x (num x) (den x) h (den_pos x) (own_value x h))) h (sized y (num x) (den x) (scaled x) (den_pos x) rounded crossed)

-- ---- operations

-- a NaN, or a number that has no sign
abbrev pub unsigned : Float → Bool
unsigned nan = true
unsigned (inf s) = not s
unsigned (fin s m e) = not s

-- there is one 0 without a sign
pub zero-double : (e : ℤ) → T (fits binary64 (fin false zero e)) → fin false zero e ≡ nought
unfolding of_bits fits
zero-double (pos zero) g = refl
zero-double (pos (suc k)) g = let l : 2 ^ 1 ≤ 2 ^ suc k = pow_mono {i = 1} {j = suc k} (omega arith) in absurd (omega (arith, eqb→eq (2 ^ suc k * 1) 1 g))
zero-double (negsuc k) g = let l : 2 ^ 1 ≤ 2 ^ suc k = pow_mono {i = 1} {j = suc k} (omega arith) in absurd (omega (arith, eqb→eq (1 * 2 ^ suc k) 1 g))

pub zero_plus : (x : Float) → T (fits binary64 x) → T (unsigned x) → add nought x ≡ x
unfolding Ieee.add of_bits
zero_plus nan f u = refl
zero_plus (inf true) f u = absurd u
zero_plus (inf false) f u = refl
zero_plus (fin true m e) f u = absurd u
zero_plus (fin false zero e) f u = ap (add nought) (zero-double e f) ∙ sym (zero-double e f)
zero_plus (fin false (suc m) e) f u =
    ap (λ (a : ℕ). round binary64 false a (1 * down e)) (sums (suc m * up e) (down e))
    ∙ ap (round binary64 false (suc m * up e)) (one-mul (down e))
    ∙ own_round (fin false (suc m) e) f (lt→ltb 0 (suc m) (omega arith))
  where
    sums : (a d : ℕ) → 0 * 1 * d + a * 1 ≡ a
    sums a d = omega arith

pub times-one : (x : Float) → T (fits binary64 x) → T (positive x) → mul x one ≡ x
unfolding of_bits
times-one x f h =
    mul_at binary64 x one (num x) (den x) 1 1 h tt (den_pos x) (omega arith) (own_value x h) (refl, refl)
    ∙ ap (λ (a : ℕ). round binary64 false a (den x * 1)) (mul-one (num x))
    ∙ ap (round binary64 false (num x)) (mul-one (den x))
    ∙ own_round x f h

pub over_itself : (x : Float) → T (positive x) → div x x ≡ one
unfolding Ieee.div of_bits
over_itself nan h = absurd h
over_itself (inf s) h = absurd h
over_itself (fin true m e) h = absurd h
over_itself (fin false zero e) h = absurd h
over_itself (fin false (suc m) e) h =
    let a = suc m * up e * down e in
    let p : 0 < a = mul-pos (mul-pos (omega arith) (up_pos e)) (down_pos e) in
    cond-false (eqb (suc m) 0) _ (round binary64 false a a) (ne_eqb (suc m) 0 (λ (z : suc m ≡ 0). omega arith)) ∙ round_same binary64 false a a 1 1 p (omega arith) (mul-one a ∙ sym (one-mul a))

pub times_zero : (x : Float) → T (positive x) → mul x nought ≡ nought
unfolding Ieee.mul of_bits
times_zero nan h = absurd h
times_zero (inf s) h = absurd h
times_zero (fin true m e) h = absurd h
times_zero (fin false m e) h =
    round_same binary64 false (m * up e * (0 * 1)) (down e * 1) 0 1 (mul-pos (down_pos e) (omega arith)) (omega arith) (omega (arith, mul-zero (m * up e)))
