-- The bit pattern of the root of a square. `square-rounds`: the pattern of w = r · 2 ^ t over 2 ^ 1074 rounds the root of the rounded square of w.
use Prim.Native.Nat.{ℕ, suc, ◌+◌, ◌-◌, ◌*◌, ◌/◌, ◌%◌, ◌^◌, ◌≤◌, ◌<◌, compare, Ordering}
use native.Mathlib.Nat.{mul-le-mul, mul-le-mul_right, mul-lt-mul_of_pos_right, mul-pos, le_of_mul-le-mul_right, le-div_iff_mul-le}
use native.Mathlib.Nat.{div-add-mod', mod-lt, le_refl, le_of_lt, lt_of_le_of_lt, add_assoc, suc-mul}
use native.Mathlib.Omega.{arith}
use native.Mathlib.Decide.{dec_lt}
use mathlib.Core.Path.{◌≡◌, refl, sym, ap, ◌∙◌, subst}
use mathlib.Core.Bool.{not}
use lib.Arith.{lt_of_le-ne}
use lib.Dec.{T, is_le, compare_is_eq, eqb, leb→le, nleb→lt, eqb→eq, eqb_refl}
use lib.Pow.{pow_pos, pow_mono, pow-lt, pow-add, shl_lt}
use lib.Ieee.{binary64, nearest, size}
use lib.Ieee.Digits.{size_reaches}
use lib.Ieee.Nearest.{closest}
use lib.Ieee.Scale.{grid}
use Rattle.kernel.specs.Sqrt.{square, scaled_bits}
use Rattle.kernel.proofs.Roots.Rounding.{Rounds}
use Rattle.kernel.proofs.Doubles.PatternOrder.{scaled_bits-at, scaled_bits_grows}

-- ---- the nearest whole number is within a half

abbrev Cmp : Ordering → ℕ → ℕ → Type 0
Cmp Ordering.lt a b = a < b
Cmp Ordering.eq a b = a ≡ b
Cmp Ordering.gt a b = b < a

cmp : (a b : ℕ) → Cmp (compare a b) a b
cmp a b = go (compare a b) (leb→le a b) (nleb→lt a b) (eqb→eq a b) (λ (e : a ≡ b). subst (λ (x : ℕ). T (eqb a x)) e (eqb_refl a))
  where
    go : (o : Ordering) → (T (is_le o) → a ≤ b) → (T (not (is_le o)) → b < a) → (T (compare_is_eq o) → a ≡ b) → (a ≡ b → T (compare_is_eq o)) → Cmp o a b
    go Ordering.lt h k e n = lt_of_le-ne (h tt) n
    go Ordering.eq h k e n = e tt
    go Ordering.gt h k e n = k tt

record Near (a b q : ℕ) : Type 0 where
  high : 2 * (q * b) ≤ 2 * a + b
  low : 2 * a ≤ 2 * (q * b) + b

near : (a b : ℕ) → 0 < b → Near a b (closest a b)
near a b h = go (compare (a % b * 2) b) (cmp (a % b * 2) b)
  where
    go : (o : Ordering) → Cmp o (a % b * 2) b → Near a b (nearest (a / b) o)
    go Ordering.lt c = record { high = omega (arith, div-add-mod' a b); low = omega (arith, div-add-mod' a b) }
    go Ordering.eq c =
        let e : a / b % 2 * b ≤ 1 * b = mul-le-mul_right b (omega arith) in
        record { high = omega (arith, div-add-mod' a b); low = omega (arith, div-add-mod' a b) }
    go Ordering.gt c = record { high = omega (arith, div-add-mod' a b, mod-lt a h); low = omega (arith, div-add-mod' a b, mod-lt a h) }

-- a multiple is nearest to itself
nearest_multiple : (m b : ℕ) → 0 < b → closest (m * b) b ≡ m
nearest_multiple m b h = go (closest (m * b) b) (near (m * b) b h) (dec_lt (closest (m * b) b) m) (dec_lt m (closest (m * b) b))
  where
    go : (q : ℕ) → Near (m * b) b q → Dec (q < m) → Dec (m < q) → q ≡ m
    go q n (yes l) d = absurd (omega (arith, mul-le-mul_right b l, suc-mul q b, n.low))
    go q n (no l) (yes g) = absurd (omega (arith, mul-le-mul_right b g, suc-mul m b, n.high))
    go q n (no l) (no g) = omega arith

-- ---- the bounds, for w = r · t over c, whose square is x over c

module _ (r t c k x : ℕ) (t-pos : 0 < t) (least : 2 ^ 52 ≤ r) (gap : c * k ≤ 2 ^ 53 * (t * t)) where
  above : 2 * x * c ≤ 2 * (r * t * (r * t)) + c * k → 4 * x * c < (r * t + (r + 1) * t) * (r * t + (r + 1) * t)
  above high = omega (arith, mul-le-mul_right (t * t) least, mul-pos t-pos t-pos)

  under : 2 ^ 52 < r → 2 * (r * t * (r * t)) ≤ 2 * x * c + c * k → ((r - 1) * t + r * t) * ((r - 1) * t + r * t) < 4 * x * c
  under more low = go (r - 1) (omega arith)
    where
      go : (s : ℕ) → r ≡ s + 1 → (s * t + r * t) * (s * t + r * t) < 4 * x * c
      go s e = subst (λ (z : ℕ). (s * t + z * t) * (s * t + z * t) < 4 * x * c) (sym e)
          (let l : 2 ^ 52 * (t * t) ≤ s * (t * t) = mul-le-mul_right (t * t) (omega arith) in
          let m : 2 * ((s + 1) * t * ((s + 1) * t)) ≤ 2 * x * c + c * k = subst (λ (z : ℕ). 2 * (z * t * (z * t)) ≤ 2 * x * c + c * k) e low in
          omega (arith, mul-pos t-pos t-pos))

-- ---- the gap between the doubles about a square

exponents : (a b : ℕ) → 2 ^ a < 2 ^ b → a < b
exponents a b h = go (dec_lt a b)
  where
    go : Dec (a < b) → a < b
    go (yes l) = l
    go (no l) = let m : 2 ^ b ≤ 2 ^ a = pow_mono (omega arith) in absurd (omega arith)

exponents_le : (a b : ℕ) → 2 ^ a ≤ 2 ^ b → a ≤ b
exponents_le a b h = go (dec_lt b a)
  where
    go : Dec (b < a) → a ≤ b
    go (yes l) = let m : 2 ^ b < 2 ^ a = pow-lt l in absurd (omega arith)
    go (no l) = omega arith

-- where the square of w = r · 2 ^ t over 2 ^ l has k + 53 digits before the point
gap_bound : (l r t k : ℕ) → r < 2 ^ 53 → 2 ^ (k + 52) ≤ r * 2 ^ t * (r * 2 ^ t) * 2 ^ l / (2 ^ l * 2 ^ l) → 2 ^ l * 2 ^ k ≤ 2 ^ 53 * (2 ^ t * 2 ^ t)
gap_bound l r t k h reached =
    let w = r * 2 ^ t in
    let c = 2 ^ l in
    let m = 2 ^ (53 + t) in
    let c_pos : 0 < c = pow_pos l in
    let whole : 2 ^ (k + 52) * (c * c) ≤ w * w * c = (le-div_iff_mul-le (mul-pos c_pos c_pos)).0 reached in
    let square : 2 ^ (k + 52) * c ≤ w * w = le_of_mul-le-mul_right (omega arith) c_pos in
    let bound : w < m = shl_lt 53 t h in
    let less : w * w < m * m = lt_of_le_of_lt (mul-le-mul (le_refl w) (le_of_lt bound)) (mul-lt-mul_of_pos_right bound (pow_pos (53 + t))) in
    let powers : 2 ^ (k + 52 + l) < 2 ^ (53 + t + (53 + t)) = rw (pow-add 2 (k + 52) l, pow-add 2 (53 + t) (53 + t)) (lt_of_le_of_lt square less) in
    let order = exponents (k + 52 + l) (53 + t + (53 + t)) powers in
    let end : 2 ^ (l + k) ≤ 2 ^ (53 + (t + t)) = pow_mono (omega arith) in
    rw (pow-add 2 l k, pow-add 2 53 (t + t), pow-add 2 t t) at end

-- a number below w, whose square is exact
below : (a w x c : ℕ) → a < w → x * c ≡ w * w → square (a + w) < 4 * x * c
below a w x c h e = let k : suc (a + w) ≤ 2 * w = omega arith in omega (arith, mul-le-mul k k)

-- ---- the pattern of w

-- a / c² rounded to 53 digits, in units of 2 ^ -1074, for c = 2 ^ 1074
abbrev pub rounded : ℕ → ℕ
rounded a = grid binary64 a (2 ^ 1074 * 2 ^ 1074)

module _ (r t : ℕ) (least : 2 ^ 52 ≤ r) (most : r < 2 ^ 53) (normal : 53 ≤ size (r * 2 ^ t * (r * 2 ^ t) * 2 ^ 1074 / (2 ^ 1074 * 2 ^ 1074))) where
  abbrev w : ℕ
  w = r * 2 ^ t

  abbrev digits : ℕ
  digits = size (w * w * 2 ^ 1074 / (2 ^ 1074 * 2 ^ 1074))

  gap : 2 ^ 1074 * 2 ^ (digits - 53) ≤ 2 ^ 53 * (2 ^ t * 2 ^ t)
  gap = gap_bound 1074 r t (digits - 53) most (size_reaches (w * w * 2 ^ 1074 / (2 ^ 1074 * 2 ^ 1074)) (digits - 53 + 52) (omega arith))

  -- the rounded square is within half a unit of its last place
  within : (c k : ℕ) → 0 < c → 0 < k → (2 * (closest (w * w * c) (c * c * k) * k) * c ≤ 2 * (w * w) + c * k) × (2 * (w * w) ≤ 2 * (closest (w * w * c) (c * c * k) * k) * c + c * k)
  within c k hc hk =
      let n = near (w * w * c) (c * c * k) (mul-pos (mul-pos hc hc) hk) in
      (le_of_mul-le-mul_right (omega (arith, n.high)) hc, le_of_mul-le-mul_right (omega (arith, n.low)) hc)

  even : (a b : ℕ) → b ≤ a → 52 + t + (52 + t) ≡ a → 52 + t + (52 + t) ≡ a - b + b
  even a b h e = omega arith

  -- it is exact where w is a power of two
  exact : (c k : ℕ) → c ≡ 2 ^ 1074 → k ≡ 2 ^ (digits - 53) → r ≡ 2 ^ 52 → closest (w * w * c) (c * c * k) * k * c ≡ w * w
  exact c k ec ek er =
      let l = digits - 53 in
      let order : 1074 + l ≤ 53 + (t + t) = exponents_le (1074 + l) (53 + (t + t)) (rw (pow-add 2 1074 l, pow-add 2 53 (t + t), pow-add 2 t t) gap) in
      let m = 2 ^ (104 + (t + t) - (1074 + l)) in
      let c_pos : 0 < c = subst (λ (z : ℕ). 0 < z) (sym ec) (pow_pos 1074) in
      let k-pos : 0 < k = subst (λ (z : ℕ). 0 < z) (sym ek) (pow_pos l) in
      let d = 104 + (t + t) - (1074 + l) in
      let square : w * w ≡ m * (c * k) =
      ap (λ (z : ℕ). z * 2 ^ t * (z * 2 ^ t)) er
      ∙ ap (λ (z : ℕ). z * z) (sym (pow-add 2 52 t))
      ∙ sym (pow-add 2 (52 + t) (52 + t))
      ∙ ap (λ (z : ℕ). 2 ^ z) (even (104 + (t + t)) (1074 + l) (omega arith) (omega arith))
      ∙ pow-add 2 d (1074 + l)
      ∙ ap (λ (z : ℕ). m * z) (pow-add 2 1074 l)
      ∙ ap (λ (z : ℕ). m * (z * 2 ^ l)) (sym ec)
      ∙ ap (λ (z : ℕ). m * (c * z)) (sym ek) in
      let multiple : w * w * c ≡ m * (c * c * k) = ap (λ (z : ℕ). z * c) square ∙ omega arith in
      let found : closest (w * w * c) (c * c * k) ≡ m = ap (λ (z : ℕ). closest z (c * c * k)) multiple ∙ nearest_multiple m (c * c * k) (mul-pos (mul-pos c_pos c_pos) k-pos) in
      ap (λ (z : ℕ). z * k * c) found ∙ omega arith ∙ sym square

  abbrev pattern : ℕ
  pattern = t * 2 ^ 52 + r

  here : scaled_bits pattern ≡ w
  here = scaled_bits-at t r least (le_of_lt most)

  next : scaled_bits (pattern + 1) ≡ (r + 1) * 2 ^ t
  next = ap scaled_bits (add_assoc (t * 2 ^ 52) r 1) ∙ scaled_bits-at t (r + 1) (omega arith) (omega arith)

  before : 2 ^ 52 < r → scaled_bits (pattern - 1) ≡ (r - 1) * 2 ^ t
  before h = ap scaled_bits (omega arith) ∙ scaled_bits-at t (r - 1) (omega arith) (omega arith)

  half : (2 * rounded (w * w) * 2 ^ 1074 ≤ 2 * (w * w) + 2 ^ 1074 * 2 ^ (digits - 53)) × (2 * (w * w) ≤ 2 * rounded (w * w) * 2 ^ 1074 + 2 ^ 1074 * 2 ^ (digits - 53))
  half = within (2 ^ 1074) (2 ^ (digits - 53)) (pow_pos 1074) (pow_pos (digits - 53))

  lower : Dec (2 ^ 52 < r) → square (scaled_bits (pattern - 1) + scaled_bits pattern) < 4 * rounded (w * w) * 2 ^ 1074
  lower (yes h) = rw (before h, here) (under r (2 ^ t) (2 ^ 1074) (2 ^ (digits - 53)) (rounded (w * w)) (pow_pos t) least gap h half.1)
  lower (no h) =
      let e : rounded (w * w) * 2 ^ 1074 ≡ w * w = exact (2 ^ 1074) (2 ^ (digits - 53)) refl refl (omega arith) in
      let less : scaled_bits (pattern - 1) < w = subst (λ (z : ℕ). scaled_bits (pattern - 1) < z) (ap scaled_bits (omega arith) ∙ here) (scaled_bits_grows (pattern - 1)) in
      rw here (below (scaled_bits (pattern - 1)) w (rounded (w * w)) (2 ^ 1074) less e)

  pub square-rounds : Rounds (rounded (w * w)) pattern
  square-rounds =
      record {
        not_less = lower (dec_lt (2 ^ 52) r);
        not_greater = rw (here, next) (above r (2 ^ t) (2 ^ 1074) (2 ^ (digits - 53)) (rounded (w * w)) (pow_pos t) least gap half.0);
      }
