-- Sums from 0.0 never are -0.0, and so do not show the sign of a zero term: `add-either` and `add_signed`.
use Prim.Native.Nat.{ℕ, zero, suc, ◌+◌, ◌*◌, ◌-◌, ◌/◌, ◌%◌, ◌^◌, ◌<◌, ◌≤◌, compare}
use native.Mathlib.Omega.{arith}
use native.Mathlib.Nat.{zero-mul, mul-one, one-mul, mul-pos, add-zero, sub-zero, add-mul, suc-mul, mul-le-mul_right, lt_of_mul-lt-mul_right, mul-mul-mul_comm, mul_comm, le_trans}
use native.Mathlib.Decide.{dec_lt}
use mathlib.Core.Bool.{Bool, true, false, cond, beq, ◌&&◌}
use mathlib.Core.Path.{◌≡◌, refl, sym, ap, ◌∙◌}
use borrow.Author.Tests.{lt-ltb, le-ltb}
use lib.Dec.{T, ltb, leb, eqb, leb→le, eqb→eq}
use lib.IntN.{ℤ, pos, negsuc}
use lib.Ieee as Ieee
use lib.Ieee.{Float, nan, inf, fin, binary64, round, units, odd, neg, up, down, low, emax, prec, size, nearest, fits}
use lib.Ieee.Fits.{up_pos, down_pos, round_is, and_l, and_r}
use lib.Ieee.Order.{round_mono}
use lib.Ieee.Positive.{positive, above, above_of_le}
use lib.Pow.{pow_pos, pow-lt, pow-add}
use Rattle.kernel.specs.Number.{add}
use Rattle.kernel.proofs.Doubles.Opposite.{round-neg}

abbrev pub minus_zero : Float → Bool
minus_zero nan = false
minus_zero (inf s) = false
minus_zero (fin false m e) = false
minus_zero (fin true zero e) = true
minus_zero (fin true (suc m) e) = false

-- ---- a zero is added

sum-plain : (s a : Bool) (x c : ℕ) → (s ≡ true → 0 < x) → Ieee.sum binary64 s x a 0 c ≡ round binary64 s x c
unfolding Ieee.sum
sum-plain true true x c h = rw add-zero
sum-plain false false x c h = rw add-zero
sum-plain true false x c h = rw (le-ltb x 0 (omega arith), lt-ltb 0 x (h refl), sub-zero)
sum-plain false true x c h = rw (le-ltb x 0 (omega arith), sub-zero)

-- a summand's size is above 0 where it is negative and no zero
size_above : (s : Bool) (m : ℕ) (e : ℤ) (k : ℕ) → 0 < k → minus_zero (fin s m e) ≡ false → s ≡ true → 0 < m * up e * k
size_above false m e k l h p = absurd (let z : ◌≡◌ {A = ℕ} 0 1 = cc in omega arith)
size_above true zero e k l h p = absurd (let z : ◌≡◌ {A = ℕ} 0 1 = cc in omega arith)
size_above true (suc m) e k l h p = mul-pos (mul-pos (omega arith) (up_pos e)) l

pub add-either : (x : Float) (a b : Bool) → minus_zero x ≡ false → add x (fin a 0 (pos 0)) ≡ add x (fin b 0 (pos 0))
unfolding Ieee.add
add-either nan a b h = refl
add-either (inf s) a b h = refl
add-either (fin s m e) a b h = plain a ∙ sym (plain b)
  where
    plain : (t : Bool) → Ieee.sum binary64 s (m * up e * 1) t (0 * 1 * down e) (down e * 1) ≡ round binary64 s (m * up e * 1) (down e * 1)
    plain t = ap (λ (y : ℕ). Ieee.sum binary64 s (m * up e * 1) t y (down e * 1)) (zero-mul (down e)) ∙ sum-plain s t (m * up e * 1) (down e * 1) (size_above s m e 1 (omega arith) h)

-- ---- signs of rounded numbers

units_signed : (q k : ℕ) → minus_zero (units binary64 false q k) ≡ false
unfolding units odd
units_signed zero k = go (ltb (zero * 2 ^ k) (2 ^ (low binary64 + suc (emax binary64))))
  where
    go : (b : Bool) → minus_zero (cond b (fin false zero (pos zero)) (inf false)) ≡ false
    go true = refl
    go false = refl
units_signed (suc q) k = go (ltb (suc q * 2 ^ k) (2 ^ (low binary64 + suc (emax binary64)))) _ _
  where
    go : (b : Bool) (m : ℕ) (e : ℤ) → minus_zero (cond b (fin false m e) (inf false)) ≡ false
    go true m e = refl
    go false m e = refl

above_signed : (x : Float) → T (above x) → minus_zero (neg x) ≡ false
unfolding neg
above_signed nan h = absurd h
above_signed (inf true) h = refl
above_signed (inf false) h = refl
above_signed (fin true m e) h = absurd h
above_signed (fin false zero e) h = absurd h
above_signed (fin false (suc m) e) h = refl

round_signed : (a c : ℕ) → minus_zero (round binary64 false a c) ≡ false
round_signed a c =
    let k = size (a * 2 ^ low binary64 / c) - prec binary64 in
    let u = c * 2 ^ k in
    ap minus_zero (round_is binary64 false a c) ∙ units_signed (nearest (a * 2 ^ low binary64 / u) (compare (a * 2 ^ low binary64 % u * 2) u)) k

-- the least number above 0
tiny_positive : T (positive (round binary64 false 1 (2 ^ low binary64)))
unfolding round units odd size
tiny_positive = tt

round-above : (a c : ℕ) → 0 < c → c ≤ a * 2 ^ low binary64 → minus_zero (round binary64 true a c) ≡ false
round-above a c h k =
    ap minus_zero (round-neg false a c)
    ∙ above_signed (round binary64 false a c)
    (above_of_le (round binary64 false 1 (2 ^ low binary64)) (round binary64 false a c) tiny_positive
    (round_mono binary64 1 (2 ^ low binary64) a c (pow_pos (low binary64)) h (rw one-mul k)))

-- a difference of multiples of c is 0 or not below c
gap : (m b a k c α β : ℕ) → m + b ≡ a → 0 < m → 0 < k → a * k ≡ α * c → b * k ≡ β * c → c ≤ m * k
gap m b a k c α β e h l p q =
    let whole : m * k + b * k ≡ α * c = sym (add-mul m b k) ∙ ap (λ (x : ℕ). x * k) e ∙ p in
    let some : 0 < m * k = mul-pos h l in
    let more : β < α = lt_of_mul-lt-mul_right c (omega arith) in
    omega (arith, mul-le-mul_right c more, suc-mul β c)

module _ (a b c α β : ℕ) (h : 0 < c) (p : a * 2 ^ low binary64 ≡ α * c) (q : b * 2 ^ low binary64 ≡ β * c) where
  -- the greater less the lesser, where they differ
  first_more : b < a → minus_zero (round binary64 true (a - b) c) ≡ false
  first_more l = round-above (a - b) c h (gap (a - b) b a (2 ^ low binary64) c α β (omega arith) (omega arith) (pow_pos (low binary64)) p q)

  second_more : a < b → minus_zero (round binary64 true (b - a) c) ≡ false
  second_more l = round-above (b - a) c h (gap (b - a) a b (2 ^ low binary64) c β α (omega arith) (omega arith) (pow_pos (low binary64)) q p)

  -- and their sum
  both : 0 < a → minus_zero (round binary64 true (a + b) c) ≡ false
  both l =
      round-above (a + b) c h
      (le_trans (gap a 0 a (2 ^ low binary64) c α 0 (omega arith) l (pow_pos (low binary64)) p (zero-mul (2 ^ low binary64) ∙ sym (zero-mul c))) (mul-le-mul_right (2 ^ low binary64) (omega arith)))

  sum_signed : (s t : Bool) → (s ≡ true → 0 < a) → Dec (a < b) → Dec (b < a) → minus_zero (Ieee.sum binary64 s a t b c) ≡ false
  unfolding Ieee.sum
  sum_signed true true l d e = both (l refl)
  sum_signed false false l d e = round_signed (a + b) c
  sum_signed true false l (yes d) e = rw (lt-ltb a b d) (round_signed (b - a) c)
  sum_signed true false l (no d) (yes e) = rw (le-ltb a b (omega arith), lt-ltb b a e) (first_more e)
  sum_signed true false l (no d) (no e) = rw (le-ltb a b (omega arith), le-ltb b a (omega arith)) (round_signed (a - b) c)
  sum_signed false true l (yes d) e = rw (lt-ltb a b d) (second_more d)
  sum_signed false true l (no d) e = rw (le-ltb a b (omega arith)) (round_signed (a - b) c)

-- ---- sums of doubles

third : (a b c d : Bool) → T (a && b && c && d) → T c
third a b c d h = and_r (a && b) c (and_l (a && b && c) d h)

divides : (n k : ℕ) → 2 ^ k ≤ 2 ^ n → (x : ℕ) × (2 ^ n ≡ x * 2 ^ k)
divides n k h = (2 ^ (n - k), sym (ap (λ (j : ℕ). 2 ^ j) whole) ∙ pow-add 2 (n - k) k)
  where
    whole : n - k + k ≡ n
    whole = go (dec_lt n k)
      where
        go : Dec (n < k) → n - k + k ≡ n
        go (yes l) = absurd (let z : 2 ^ n < 2 ^ k = pow-lt {i = n} {j = k} l in omega arith)
        go (no l) = omega arith

-- a double is a multiple of the least one
multiple : (s : Bool) (m : ℕ) (e : ℤ) → T (fits binary64 (fin s m e)) → (x : ℕ) × (2 ^ low binary64 ≡ x * down e)
unfolding fits
multiple s m (pos k) h = (2 ^ low binary64, sym (mul-one (2 ^ low binary64)))
multiple s zero (negsuc k) h = absurd (let l : 2 ^ 0 < 2 ^ suc k = pow-lt {i = 0} {j = suc k} (omega arith) in omega (arith, eqb→eq (1 * 2 ^ suc k) 1 h, one-mul (2 ^ suc k)))
multiple s (suc m) (negsuc k) h =
    divides (low binary64) (suc k)
    (leb→le (2 ^ suc k) (2 ^ low binary64)
    (third (eqb (suc m % 2) 1) (ltb (suc m) (2 ^ prec binary64)) (leb (2 ^ suc k) (2 ^ low binary64)) (ltb (suc m * 1) (2 ^ suc (emax binary64) * 2 ^ suc k)) h))

pub add_signed : (x y : Float) → T (fits binary64 x) → T (fits binary64 y) → minus_zero x ≡ false → minus_zero (add x y) ≡ false
unfolding Ieee.add
add_signed nan y f g h = refl
add_signed (inf s) nan f g h = refl
add_signed (inf s) (inf t) f g h = go (beq s t)
  where
    go : (b : Bool) → minus_zero (cond b (inf s) nan) ≡ false
    go true = refl
    go false = refl
add_signed (inf s) (fin t n d) f g h = refl
add_signed (fin s m e) nan f g h = refl
add_signed (fin s m e) (inf t) f g h = refl
add_signed (fin s m e) (fin t n d) f g h =
    let x = multiple s m e f in
    let y = multiple t n d g in
    let p = ap (λ (k : ℕ). m * up e * down d * k) x.1 ∙ mul-mul-mul_comm (m * up e) (down d) x.0 (down e) ∙ ap (λ (k : ℕ). m * up e * x.0 * k) (mul_comm (down d) (down e)) in
    let q = ap (λ (k : ℕ). n * up d * down e * k) y.1 ∙ mul-mul-mul_comm (n * up d) (down e) y.0 (down d) in
    sum_signed (m * up e * down d) (n * up d * down e) (down e * down d) (m * up e * x.0) (n * up d * y.0) (mul-pos (down_pos e) (down_pos d)) p q s t
    (size_above s m e (down d) (down_pos d) h) (dec_lt _ _) (dec_lt _ _)
