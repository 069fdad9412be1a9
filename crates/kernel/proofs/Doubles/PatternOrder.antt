-- The doubles in their order: what a bit pattern stands for, in units of 2 ^ -1074 (`scaled_bits-low`, `scaled_bits-at`), grows with the pattern (`scaled_bits_grows`,
-- `scaled_bits_mono`).
use Prim.Native.Nat.{ℕ, zero, suc, ◌+◌, ◌-◌, ◌*◌, ◌/◌, ◌%◌, ◌^◌, ◌≤◌, ◌<◌}
use native.Mathlib.Nat.{mul-lt-mul_of_pos_right, mod-lt, eq-or-lt_of_le, le_trans, le_of_lt, le_of_suc-le-suc, pow-succ'}
use native.Mathlib.Numerals.{add-one}
use native.Mathlib.Omega.{arith}
use native.Mathlib.Decide.{dec_lt}
use mathlib.Core.Path.{◌≡◌, sym, ap, ◌∙◌, subst}
use mathlib.Core.Logic.{⊎_elim}
use mathlib.Core.Bool.{false}
use lib.Arith.{digits_div, digits_mod, le-zero}
use lib.Pow.{pow_pos}
use lib.Dec.{ltb}
use borrow.Author.Tests.{lt-ltb, le-ltb}
use Rattle.kernel.specs.Sqrt.{scaled_bits}

-- a pattern without a leading digit
pub scaled_bits-low : (p : ℕ) → p < 2 ^ 52 → scaled_bits p ≡ p
unfolding scaled_bits
scaled_bits-low p h = rw (lt-ltb p (2 ^ 52) h)

-- a pattern with the exponent's field t + 1 and the digits after the leading one
pub scaled_bits_high : (t digits : ℕ) → digits < 2 ^ 52 → scaled_bits (suc t * 2 ^ 52 + digits) ≡ (2 ^ 52 + digits) * 2 ^ t
unfolding scaled_bits
scaled_bits_high t digits h =
    let high : ltb (suc t * 2 ^ 52 + digits) (2 ^ 52) ≡ false = le-ltb (suc t * 2 ^ 52 + digits) (2 ^ 52) (omega arith) in
    let field : (suc t * 2 ^ 52 + digits) / 2 ^ 52 ≡ suc t = digits_div (suc t) h in
    let rest : (suc t * 2 ^ 52 + digits) % 2 ^ 52 ≡ digits = digits_mod (suc t) h in
    rw (high, field, rest) (ap (λ (k : ℕ). (2 ^ 52 + digits) * 2 ^ k) (omega arith))

-- the same by the significand r, up to and with the next power of two
pub scaled_bits-at : (t r : ℕ) → 2 ^ 52 ≤ r → r ≤ 2 ^ 53 → scaled_bits (t * 2 ^ 52 + r) ≡ r * 2 ^ t
scaled_bits-at t r lo hi = ⊎_elim whole part (eq-or-lt_of_le hi)
  where
    part : r < 2 ^ 53 → scaled_bits (t * 2 ^ 52 + r) ≡ r * 2 ^ t
    part h =
        let same : suc t * 2 ^ 52 + (r - 2 ^ 52) ≡ t * 2 ^ 52 + r = omega arith in
        ap scaled_bits (sym same) ∙ scaled_bits_high t (r - 2 ^ 52) (omega arith) ∙ ap (λ (x : ℕ). x * 2 ^ t) (omega arith)

    whole : r ≡ 2 ^ 53 → scaled_bits (t * 2 ^ 52 + r) ≡ r * 2 ^ t
    whole e =
        let same : suc (suc t) * 2 ^ 52 + 0 ≡ t * 2 ^ 52 + r = omega arith in
        ap scaled_bits (sym same) ∙ scaled_bits_high (suc t) 0 (omega arith) ∙ omega (arith, pow-succ' 2 t, ap (λ (x : ℕ). x * 2 ^ t) e)

-- each pattern from 2 ^ 52 up is one of those
pub split_pattern : (p : ℕ) → 2 ^ 52 ≤ p → (p / 2 ^ 52 - 1) * 2 ^ 52 + (2 ^ 52 + p % 2 ^ 52) ≡ p
split_pattern p h = omega arith

pub scaled_bits_grows : (p : ℕ) → scaled_bits p < scaled_bits (p + 1)
scaled_bits_grows p = go (dec_lt (p + 1) (2 ^ 52)) (dec_lt p (2 ^ 52))
  where
    go : Dec (p + 1 < 2 ^ 52) → Dec (p < 2 ^ 52) → scaled_bits p < scaled_bits (p + 1)
    go (yes h) d = rw (scaled_bits-low p (omega arith), scaled_bits-low (p + 1) h) (omega arith)
    go (no h) (yes k) =
        let e : p + 1 ≡ 0 * 2 ^ 52 + 2 ^ 52 = omega arith in
        rw (scaled_bits-low p k, e, scaled_bits-at 0 (2 ^ 52) (omega arith) (omega arith)) (omega arith)
    go (no h) (no k) =
        let t = p / 2 ^ 52 - 1 in
        let r = 2 ^ 52 + p % 2 ^ 52 in
        let b : p % 2 ^ 52 < 2 ^ 52 = mod-lt p (omega arith) in
        let e : t * 2 ^ 52 + r ≡ p = split_pattern p (omega arith) in
        let e' : t * 2 ^ 52 + (r + 1) ≡ p + 1 = omega arith in
        subst (λ (x : ℕ). scaled_bits x < scaled_bits (p + 1)) e
        (subst (λ (x : ℕ). scaled_bits (t * 2 ^ 52 + r) < scaled_bits x) e'
        (rw (scaled_bits-at t r (omega arith) (omega arith), scaled_bits-at t (r + 1) (omega arith) (omega arith)) (mul-lt-mul_of_pos_right (omega arith) (pow_pos t))))

pub scaled_bits_mono : (p q : ℕ) → p ≤ q → scaled_bits p ≤ scaled_bits q
scaled_bits_mono p zero h = omega (arith, ap scaled_bits (le-zero h))
scaled_bits_mono p (suc q) h =
    ⊎_elim
    (λ (e : p ≡ suc q). omega (arith, ap scaled_bits e))
    (λ (l : p < suc q). le_trans (scaled_bits_mono p q (le_of_suc-le-suc l)) (le_of_lt (rw add-one at (scaled_bits_grows q))))
    (eq-or-lt_of_le h)

pub scaled_bits-positive : (p : ℕ) → 0 < p → 0 < scaled_bits p
scaled_bits-positive p h = omega (arith, scaled_bits_mono 1 p h, scaled_bits-low 1 (omega arith))
