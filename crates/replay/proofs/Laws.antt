-- Which bit patterns are a NaN's, by the comparison that the code makes (`of_nan_pattern`, `no_nan_pattern`), and what is the same double (`same_nan`, `same_number`).
use Rattle.std.proofs.Common.{◌≡◌, ℕ, ◌%◌, ◌<◌, ◌≤◌, true, false, T, eqb, sym, refl, ◌∙◌, subst, le-ltb, lt-ltb, ltb}
use lib.Ieee.{Float, nan, inf, fin, binary64, is_nan, nan_bits, ne, of_bits, to_bits}
use lib.Ieee.Bits.{nan_bits_is, nan_bits_above}
use lib.Ieee.Compare.{differs_from_itself}
use Rattle.kernel.proofs.Doubles.Patterns.{equal_number}
use Rattle.replay.specs.Replay.{same}

-- below the sign, the patterns above that of +infinity
nan_pattern : (p : ℕ) → 0x7FF0_0000_0000_0000 < p % 0x8000_0000_0000_0000 → nan_bits binary64 p ≡ true
nan_pattern p h = nan_bits_above binary64 p ∙ lt-ltb 0x7FF0_0000_0000_0000 (p % 0x8000_0000_0000_0000) h

pub no_nan_pattern : (p : ℕ) → p % 0x8000_0000_0000_0000 ≤ 0x7FF0_0000_0000_0000 → nan_bits binary64 p ≡ false
no_nan_pattern p h = nan_bits_above binary64 p ∙ le-ltb 0x7FF0_0000_0000_0000 (p % 0x8000_0000_0000_0000) h

is_nan_lem : (x : Float) → is_nan x ≡ true → nan ≡ x
unfolding is_nan
is_nan_lem nan e = refl
is_nan_lem (inf s) e = absurd (subst T (sym e) tt)
is_nan_lem (fin s m e) h = absurd (subst T (sym h) tt)

pub of_nan_pattern : (p : ℕ) → 0x7FF0_0000_0000_0000 < p % 0x8000_0000_0000_0000 → nan ≡ of_bits binary64 p
of_nan_pattern p h = is_nan_lem (of_bits binary64 p) (sym (nan_bits_is binary64 p) ∙ nan_pattern p h)

-- a number that differs from itself is a NaN, and no other is
pub same_nan : (x : Float) (p : ℕ) → ne x x ≡ true → ltb 0x7FF0_0000_0000_0000 (p % 0x8000_0000_0000_0000) ≡ same x p
unfolding same is_nan
same_nan x p h = sym (nan_bits_above binary64 p) ∙ rw (differs_from_itself x (subst T (sym h) tt)) refl

pub same_number : (x : Float) (p : ℕ) → ne x x ≡ false → eqb (to_bits binary64 x) p ≡ same x p
unfolding same
same_number x p h = rw (equal_number x h) refl
