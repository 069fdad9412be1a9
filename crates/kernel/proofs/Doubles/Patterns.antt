-- Laws of doubles and their bit patterns. What is no NaN: what equals itself (`equals_itself`, `equal_number`; `unequal_nan`: what does not, is one), and what is above 0
-- (`positive_no_nan`). `pattern-value`: a pattern below those of the infinities has the sign and the size of its fields; `positive-pattern`: the pattern of a
-- finite double above 0 lies between 0 and infinity's, and shows its size. `pattern-size` and `pattern-positive`: the same from the pattern to the double.
use Prim.Native.Nat.{ℕ, zero, suc, ◌+◌, ◌*◌, ◌/◌, ◌%◌, ◌^◌, ◌≤◌, ◌<◌}
use native.Mathlib.Nat.{pos_of_ne-zero, mod-eq_of_lt, mod-lt, mul-div_cancel, mul-one, zero-add, eq-or-lt_of_le}
use native.Mathlib.Omega.{arith}
use native.Mathlib.Decide.{dec_lt}
use mathlib.Core.Path.{◌≡◌, refl, sym, ap, ◌∙◌, subst, subst⁻¹}
use mathlib.Core.Logic.{⊎_elim}
use mathlib.Core.Bool.{Bool, true, false, not, cond}
use lib.Dec.{T, leb, eqb}
use borrow.Author.Tests.{lt-leb, leb-false, ne_eqb}
use lib.Ieee.{Float, nan, inf, fin, binary64, is_nan, ne, fits, of_bits, to_bits, of_fields, odd, down}
use lib.Ieee.Bits.{of_bits-to_bits, is_false}
use lib.Ieee.Compare.{differs_from_itself}
use lib.Ieee.Exact.{HasValue, odd_sign}
use lib.Ieee.Fits.{down_pos}
use lib.Ieee.Scale.{finite}
use lib.Ieee.Positive.{positive, positive-finite, positive_of_value}
use Rattle.kernel.specs.Sqrt.{scaled, scaled_bits}
use Rattle.kernel.proofs.Doubles.PatternOrder.{scaled_bits-low, scaled_bits_high, scaled_bits-positive}

-- what equals itself is no NaN
pub equals_itself : (x : Float) → ne x x ≡ false → T (not (is_nan x))
unfolding ne is_nan
equals_itself nan p = absurd (subst T p tt)
equals_itself (inf s) p = tt
equals_itself (fin s m e) p = tt

-- the test of x against itself says whether x is a NaN
pub equal_number : (x : Float) → ne x x ≡ false → is_nan x ≡ false
equal_number x p = is_false (is_nan x) (equals_itself x p)

pub unequal_nan : (x : Float) → ne x x ≡ true → is_nan x ≡ true
unfolding is_nan
unequal_nan x p = ap is_nan (differs_from_itself x (subst T (sym p) tt))

-- what the test of a value against itself says
pub ruleset against_itself = (equal_number, unequal_nan)

pub positive_no_nan : (x : Float) → T (positive x) → T (not (is_nan x))
unfolding is_nan
positive_no_nan nan h = h
positive_no_nan (inf s) h = tt
positive_no_nan (fin s m e) h = tt

-- ---- the size of the double with a pattern

pub value-scaled : (x : Float) (s : Bool) (a : ℕ) → HasValue x s a (2 ^ 1074) → scaled x ≡ a
unfolding scaled
value-scaled nan s a v = absurd v
value-scaled (inf t) s a v = absurd v
value-scaled (fin t m e) s a v = ap (λ (n : ℕ). n / down e) v.1 ∙ mul-div_cancel a (down_pos e)

-- below the field of infinities the sign and the size are those of the fields
fields_value : (s : Bool) (field digits : ℕ) → field < 2047 → digits < 2 ^ 52 → HasValue (of_fields binary64 s field digits) s (scaled_bits (field * 2 ^ 52 + digits)) (2 ^ 1074)
unfolding of_fields
fields_value s zero digits hf hd =
    subst (λ (a : ℕ). HasValue (odd 53 s digits 0 1074) s a (2 ^ 1074)) (mul-one digits ∙ sym (ap scaled_bits (zero-add digits) ∙ scaled_bits-low digits hd)) (odd_sign 53 s digits 0 1074)
fields_value s (suc field) digits hf hd =
    rw (ne_eqb (suc field) 2047 (λ e. omega arith))
    (subst (λ (a : ℕ). HasValue (odd 53 s (2 ^ 52 + digits) field 1074) s a (2 ^ 1074)) (sym (scaled_bits_high field digits hd)) (odd_sign 53 s (2 ^ 52 + digits) field 1074))

-- the field of infinities has no finite value
fields-top : (s : Bool) (digits : ℕ) → T (finite (of_fields binary64 s 2047 digits)) → ⊥
unfolding of_fields
fields-top s digits h = go (eqb digits 0) h
  where
    go : (b : Bool) → T (finite (cond b (inf s) nan)) → ⊥
    go true v = v
    go false v = v

pattern-fields : (p : ℕ) → of_bits binary64 p ≡ of_fields binary64 (leb (2 ^ 63) p) (p % 2 ^ 63 / 2 ^ 52) (p % 2 ^ 52)
unfolding of_bits
pattern-fields p = refl

-- a pattern below those of the infinities: the sign, and the size in units of 2 ^ -1074
pub pattern-value : (p : ℕ) → p % 2 ^ 63 < 0x7FF0_0000_0000_0000 → HasValue (of_bits binary64 p) (leb (2 ^ 63) p) (scaled_bits (p % 2 ^ 63)) (2 ^ 1074)
pattern-value p h =
    let whole : p % 2 ^ 63 / 2 ^ 52 * 2 ^ 52 + p % 2 ^ 52 ≡ p % 2 ^ 63 = omega arith in
    subst (λ (n : ℕ). HasValue (of_bits binary64 p) (leb (2 ^ 63) p) (scaled_bits n) (2 ^ 1074)) whole
    (rw (pattern-fields p) (fields_value (leb (2 ^ 63) p) (p % 2 ^ 63 / 2 ^ 52) (p % 2 ^ 52) (omega arith) (mod-lt p (omega arith))))

-- the pattern of a finite double is one of those
finite-pattern : (p : ℕ) → T (finite (of_bits binary64 p)) → p % 2 ^ 63 < 0x7FF0_0000_0000_0000
finite-pattern p h = go (dec_lt (p % 2 ^ 63 / 2 ^ 52) 2047)
  where
    go : Dec (p % 2 ^ 63 / 2 ^ 52 < 2047) → p % 2 ^ 63 < 0x7FF0_0000_0000_0000
    go (yes l) = omega arith
    go (no l) =
        let top : p % 2 ^ 63 / 2 ^ 52 ≡ 2047 = omega arith in
        absurd (fields-top (leb (2 ^ 63) p) (p % 2 ^ 52) (rw top at (rw (pattern-fields p) at h)))

-- what the pattern of a finite double above 0 is
pub record Positive (x : Float) : Type 0 where
  pub above_zero : 0 < to_bits binary64 x
  pub below-infinity : to_bits binary64 x < 0x7FF0_0000_0000_0000
  pub size : scaled x ≡ scaled_bits (to_bits binary64 x)

positive_sign : (x : Float) (s : Bool) (a c : ℕ) → T (positive x) → HasValue x s a c → s ≡ false
positive_sign nan s a c h v = absurd h
positive_sign (inf t) s a c h v = absurd h
positive_sign (fin true m e) s a c h v = absurd h
positive_sign (fin false m e) s a c h v = sym v.0

pub positive-pattern : (x : Float) → T (fits binary64 x) → T (positive x) → Positive x
unfolding of_bits
positive-pattern x f h =
    let p = to_bits binary64 x in
    let back : of_bits binary64 p ≡ x = of_bits-to_bits binary64 x f in
    let q = finite-pattern p (rw back (positive-finite x h)) in
    let v : HasValue x (leb (2 ^ 63) p) (scaled_bits (p % 2 ^ 63)) (2 ^ 1074) = rw back at (pattern-value p q) in
    let below : p < 2 ^ 63 = leb-false (2 ^ 63) p (positive_sign x (leb (2 ^ 63) p) (scaled_bits (p % 2 ^ 63)) (2 ^ 1074) h v) in
    let whole : p % 2 ^ 63 ≡ p = mod-eq_of_lt below in
    record {
      above_zero = pos_of_ne-zero (λ (e : p ≡ 0). subst (λ (y : Float). T (positive y)) (sym back ∙ ap (of_bits binary64) e) h);
      below-infinity = omega arith;
      size = value-scaled x (leb (2 ^ 63) p) (scaled_bits (p % 2 ^ 63)) v ∙ ap scaled_bits whole;
    }

-- the size of the double with a pattern up to that of +infinity
pub pattern-size : (p : ℕ) → p ≤ 0x7FF0_0000_0000_0000 → scaled (of_bits binary64 p) ≡ scaled_bits p
unfolding scaled of_bits scaled_bits
pattern-size p h = ⊎_elim infinite finite-size (eq-or-lt_of_le h)
  where
    infinite : p ≡ 0x7FF0_0000_0000_0000 → scaled (of_bits binary64 p) ≡ scaled_bits p
    infinite e = subst⁻¹ (λ (n : ℕ). scaled (of_bits binary64 n) ≡ scaled_bits n) e refl

    finite-size : p < 0x7FF0_0000_0000_0000 → scaled (of_bits binary64 p) ≡ scaled_bits p
    finite-size l =
        let whole : p % 2 ^ 63 ≡ p = mod-eq_of_lt (omega arith) in
        value-scaled (of_bits binary64 p) (leb (2 ^ 63) p) (scaled_bits (p % 2 ^ 63)) (pattern-value p (omega arith)) ∙ ap scaled_bits whole

-- it is above 0 where the pattern is
pub pattern-positive : (p : ℕ) → 0 < p → p < 0x7FF0_0000_0000_0000 → T (positive (of_bits binary64 p))
pattern-positive p h l =
    let whole : p % 2 ^ 63 ≡ p = mod-eq_of_lt (omega arith) in
    let v : HasValue (of_bits binary64 p) false (scaled_bits p) (2 ^ 1074) =
    subst (λ (s : Bool). HasValue (of_bits binary64 p) s (scaled_bits p) (2 ^ 1074)) (lt-leb (2 ^ 63) p (omega arith)) (rw whole at (pattern-value p (omega arith))) in
    positive_of_value (of_bits binary64 p) (scaled_bits p) (2 ^ 1074) v (scaled_bits-positive p h)
