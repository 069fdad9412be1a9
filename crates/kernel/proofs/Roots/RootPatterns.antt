-- The bit pattern of the rounded root: only one meets the condition, `root_pattern` finds it, and the whole-number root gives it.
use Prim.Native.Nat.{ℕ, zero, suc, ◌+◌, ◌-◌, ◌*◌, ◌/◌, ◌%◌, ◌^◌, ◌≤◌, ◌<◌}
use native.Mathlib.Nat.{mul-le-mul, mul-le-mul_right, add-le-add, mul-lt-mul_of_pos_right, mul-pos, lt_of_lt_of_le, lt_of_le_of_lt}
use native.Mathlib.Nat.{le_trans, lt_irrefl, eq-or-lt_of_le, le_of_lt, add-sub_cancel, two-pow-succ, mul_assoc}
use native.Mathlib.Omega.{arith}
use native.Mathlib.Decide.{dec_lt}
use mathlib.Core.Path.{◌≡◌, refl, sym, ap, ◌∙◌, subst}
use mathlib.Core.Logic.{⊎_elim}
use mathlib.Core.Bool.{Bool, true, false, cond}
use lib.Pow.{pow_pos, pow_mono, pow-add}
use lib.Count.{count_leading_zeros, leading_top}
use borrow.Author.Tests.{lt-ltb, le-ltb, ltb-true, ltb-false}
use Rattle.kernel.specs.Sqrt.{square, scaled_bits, greatest, not_above, root_pattern}
use Rattle.kernel.specs.Private.{Nearest, RootOf}
use Rattle.kernel.proofs.Roots.Rounding.{Significand, Rounds}
use Rattle.kernel.proofs.Roots.NearestWhole.{nearest_range, argument_least, argument_most}
use Rattle.kernel.proofs.Doubles.PatternOrder.{scaled_bits-low, scaled_bits-at, split_pattern, scaled_bits_grows, scaled_bits_mono}

-- ---- only one pattern

square_mono : {a b : ℕ} → a ≤ b → square a ≤ square b
square_mono h = mul-le-mul h h

-- twice the midpoint above p is at most twice that below q, for p before q
midpoints : (p q : ℕ) → p < q → square (scaled_bits p + scaled_bits (p + 1)) ≤ square (scaled_bits (q - 1) + scaled_bits q)
midpoints p q h = square_mono (add-le-add (scaled_bits_mono p (q - 1) (omega arith)) (scaled_bits_mono (p + 1) q (omega arith)))

-- r and p both have n between their midpoints, p with room on both sides
pub one-pattern : (n r p : ℕ) → square (scaled_bits (r - 1) + scaled_bits r) < n → n ≤ square (scaled_bits r + scaled_bits (r + 1))
    → square (scaled_bits (p - 1) + scaled_bits p) < n → n < square (scaled_bits p + scaled_bits (p + 1)) → r ≡ p
one-pattern n r p rl rh pl ph = go (dec_lt r p) (dec_lt p r)
  where
    go : Dec (r < p) → Dec (p < r) → r ≡ p
    go (yes h) d = absurd (lt_irrefl n (lt_of_le_of_lt (le_trans rh (midpoints r p h)) pl))
    go (no h) (yes k) = absurd (lt_irrefl n (lt_of_lt_of_le ph (le_trans (midpoints p r k) (le_of_lt rl))))
    go (no h) (no k) = omega arith

-- ---- the search for it

record Last (holds : ℕ → Bool) (r : ℕ) : Type 0 where
  here : holds r ≡ true
  not-next : holds (r + 1) ≡ false

greatest_last : (holds : ℕ → Bool) (k p : ℕ) → holds p ≡ true → holds (p + 2 ^ k) ≡ false → Last holds (greatest holds k p)
unfolding greatest
greatest_last holds zero p yes-p no-p = record { here = yes-p; not-next = no-p }
greatest_last holds (suc k) p yes-p no-p = go (holds (p + 2 ^ k)) refl (greatest_last holds k)
  where
    go : (b : Bool) → holds (p + 2 ^ k) ≡ b → ((q : ℕ) → holds q ≡ true → holds (q + 2 ^ k) ≡ false → Last holds (greatest holds k q)) → Last holds (greatest holds k (cond b (p + 2 ^ k) p))
    go true e rest = rest (p + 2 ^ k) e (ap holds (omega (arith, two-pow-succ k)) ∙ no-p)
    go false e rest = rest p yes-p e

found : (n p : ℕ) → square (scaled_bits (p - 1) + scaled_bits p) < n → n < square (scaled_bits p + scaled_bits (p + 1)) → p < 2 ^ 63 → greatest (not_above n) 63 0 ≡ p
unfolding not_above
found n p low high h =
    let at_zero : not_above n 0 ≡ true = lt-ltb 0 n (omega arith) in
    let past : not_above n (0 + 2 ^ 63) ≡ false = le-ltb _ _ (le_trans (le_of_lt high) (midpoints p (2 ^ 63) h)) in
    let l = greatest_last (not_above n) 63 0 at_zero past in
    let r = greatest (not_above n) 63 0 in
    let next : n ≤ square (scaled_bits (r + 1 - 1) + scaled_bits (r + 1)) = ltb-false _ _ l.not-next in
    one-pattern n r p (ltb-true _ _ l.here) (rw (add-sub_cancel r 1) at next) low high

pub root_pattern_is : (x p : ℕ) → Rounds x p → p < 2 ^ 63 → root_pattern x ≡ p
unfolding root_pattern
root_pattern_is x p r h = found (4 * x * 2 ^ 1074) p r.not_less r.not_greater h

-- ---- the whole-number root gives the pattern

-- neighbours q and q + 1, and the argument v, in units of u
scale-below : (v q u : ℕ) → 0 < u → (2 * q + 1) * (2 * q + 1) < 4 * v → square (q * u + (q + 1) * u) < 4 * v * (u * u)
scale-below v q u h l = omega (arith, mul-lt-mul_of_pos_right l (mul-pos h h))

scale-above : (v q u : ℕ) → 0 < u → 4 * v < (2 * q + 1) * (2 * q + 1) → 4 * v * (u * u) < square (q * u + (q + 1) * u)
scale-above v q u h l = omega (arith, mul-lt-mul_of_pos_right l (mul-pos h h))

-- a is below r, whose square is not above v
scale_power : (v a r u : ℕ) → a < r * u → r * r ≤ v → square (a + r * u) < 4 * v * (u * u)
scale_power v a r u h l = let k : suc (a + r * u) ≤ 2 * (r * u) = omega arith in omega (arith, mul-le-mul k k, mul-le-mul_right (u * u) l)

-- The pattern is that of r * 2 ^ t, and w * 2 ^ 52 * 4 ^ t is the argument.
module _ (w t r : ℕ) (s : Significand r) (n : Nearest w r) where
  here : scaled_bits (t * 2 ^ 52 + r) ≡ r * 2 ^ t
  here = scaled_bits-at t r s.least (omega (arith, s.most))

  midpoint_above : 4 * (w * 2 ^ 52) * (2 ^ t * 2 ^ t) < square (scaled_bits (t * 2 ^ 52 + r) + scaled_bits (t * 2 ^ 52 + r + 1))
  midpoint_above =
      let next : scaled_bits (t * 2 ^ 52 + r + 1) ≡ (r + 1) * 2 ^ t = ap scaled_bits (omega arith) ∙ scaled_bits-at t (r + 1) (omega (arith, s.least)) (omega (arith, s.most)) in
      rw (here, next) (scale-above (w * 2 ^ 52) r (2 ^ t) (pow_pos t) (omega (arith, n.not_greater)))

  -- above a power of two the double below is one unit away; at a power of two it is nearer, but the argument is not below that power's square
  midpoint_below : 2 ^ 52 ≤ w → square (scaled_bits (t * 2 ^ 52 + r - 1) + scaled_bits (t * 2 ^ 52 + r)) < 4 * (w * 2 ^ 52) * (2 ^ t * 2 ^ t)
  midpoint_below h = ⊎_elim power inner (eq-or-lt_of_le s.least)
    where
      inner : 2 ^ 52 < r → square (scaled_bits (t * 2 ^ 52 + r - 1) + scaled_bits (t * 2 ^ 52 + r)) < 4 * (w * 2 ^ 52) * (2 ^ t * 2 ^ t)
      inner l =
          let q = r - 1 in
          let e : r ≡ q + 1 = omega arith in
          let before : scaled_bits (t * 2 ^ 52 + r - 1) ≡ q * 2 ^ t = ap scaled_bits (omega arith) ∙ scaled_bits-at t q (omega arith) (omega (arith, s.most)) in
          let same : scaled_bits (t * 2 ^ 52 + r) ≡ (q + 1) * 2 ^ t = here ∙ ap (λ (x : ℕ). x * 2 ^ t) e in
          let sq : r * r ≡ (q + 1) * (q + 1) = ap square e in
          rw (before, same) (scale-below (w * 2 ^ 52) q (2 ^ t) (pow_pos t) (omega (arith, n.not_less)))

      power : 2 ^ 52 ≡ r → square (scaled_bits (t * 2 ^ 52 + r - 1) + scaled_bits (t * 2 ^ 52 + r)) < 4 * (w * 2 ^ 52) * (2 ^ t * 2 ^ t)
      power e =
          let p = t * 2 ^ 52 + r in
          let less : scaled_bits (p - 1) < r * 2 ^ t = subst (λ (x : ℕ). scaled_bits (p - 1) < x) (ap scaled_bits (omega arith) ∙ here) (scaled_bits_grows (p - 1)) in
          rw here (scale_power (w * 2 ^ 52) (scaled_bits (p - 1)) r (2 ^ t) less (omega (arith, ap square e)))

-- 2 ^ e by the half of e and its last digit
power_halves : (e : ℕ) → 2 ^ e ≡ (1 + e % 2) * (2 ^ (e / 2) * 2 ^ (e / 2))
power_halves e =
    ap (λ (x : ℕ). 2 ^ x) (omega arith)
    ∙ pow-add 2 (e % 2) (e / 2 + e / 2)
    ∙ ap (λ (x : ℕ). x * 2 ^ (e / 2 + e / 2)) (last (e % 2) (omega arith))
    ∙ ap (λ (x : ℕ). (1 + e % 2) * x) (pow-add 2 (e / 2) (e / 2))
  where
    last : (b : ℕ) → b < 2 → 2 ^ b ≡ 1 + b
    last zero h = refl
    last (suc zero) h = refl
    last (suc (suc b)) h = absurd (omega arith)

-- the argument in units of 2 ^ -2148, where one of 2 ^ -1074 is k of them
argument : (x k m e : ℕ) → x * k ≡ m * 2 ^ (52 + e) → 4 * (m * (1 + e % 2) * 2 ^ 52) * (2 ^ (e / 2) * 2 ^ (e / 2)) ≡ 4 * x * k
argument x k m e h = omega (arith, pow-add 2 52 e, ap (λ (y : ℕ). m * y) (pow-add 2 52 e ∙ ap (λ (y : ℕ). 2 ^ 52 * y) (power_halves e)))

pub rounds_of : (x digits e r : ℕ) → digits < 2 ^ 52 → Nearest ((2 ^ 52 + digits) * (1 + e % 2)) r → x * 2 ^ 1074 ≡ (2 ^ 52 + digits) * 2 ^ (52 + e) → Rounds x (e / 2 * 2 ^ 52 + r)
rounds_of x digits e r h n same =
    let m = 2 ^ 52 + digits in
    let w = m * (1 + e % 2) in
    let s = nearest_range w r (argument_least digits (e % 2)) (argument_most digits (e % 2) h (omega arith)) n in
    let scaled = argument x (2 ^ 1074) m e same in
    record {
      not_less = subst (λ (y : ℕ). square (scaled_bits (e / 2 * 2 ^ 52 + r - 1) + scaled_bits (e / 2 * 2 ^ 52 + r)) < y) scaled (midpoint_below w (e / 2) r s n (argument_least digits (e % 2)));
      not_greater = subst (λ (y : ℕ). y < square (scaled_bits (e / 2 * 2 ^ 52 + r) + scaled_bits (e / 2 * 2 ^ 52 + r + 1))) scaled (midpoint_above w (e / 2) r s n);
    }

pub significand_range : (digits odd r : ℕ) → digits < 2 ^ 52 → odd < 2 → Nearest ((2 ^ 52 + digits) * (1 + odd)) r → Significand r
significand_range digits odd r h k n = nearest_range _ r (argument_least digits odd) (argument_most digits odd h k) n

pub root_of : (digits e r : ℕ) → digits < 2 ^ 52 → e < 3069 → Nearest ((2 ^ 52 + digits) * (1 + e % 2)) r → RootOf digits e (e / 2 * 2 ^ 52 + r)
root_of digits e r h k n =
    let s = significand_range digits (e % 2) r h (omega arith) n in
    record {
      root = λ x same. sym (root_pattern_is x (e / 2 * 2 ^ 52 + r) (rounds_of x digits e r h n same) (omega (arith, s.most)));
      finite = omega (arith, s.most);
    }

-- ---- the two kinds of arguments

-- a number moved up by s places and then by the rest of n
pub moved_up : (b m s k n : ℕ) → m ≡ b * 2 ^ s → s + k ≡ n → b * 2 ^ n ≡ m * 2 ^ k
moved_up b m s k n e f = ap (λ (x : ℕ). b * 2 ^ x) (sym f) ∙ ap (λ (x : ℕ). b * x) (pow-add 2 s k) ∙ sym (mul_assoc b (2 ^ s) (2 ^ k)) ∙ ap (λ (x : ℕ). x * 2 ^ k) (sym e)

-- a number whose highest digit stands at place j has it at place 52 once it is moved up by the places between
lifted : (b j s : ℕ) → s + j ≡ 52 → 2 ^ j ≤ b → b < 2 ^ suc j → (2 ^ 52 ≤ b * 2 ^ s) × (b * 2 ^ s < 2 ^ 53)
lifted b j s e low high =
    let here : 2 ^ (s + j) ≡ 2 ^ s * 2 ^ j = pow-add 2 s j in
    let next : 2 ^ (s + suc j) ≡ 2 ^ s * 2 ^ suc j = pow-add 2 s (suc j) in
    let full : s + suc j ≡ 53 = omega arith in
    (omega (arith, rw e at here, mul-le-mul_right (2 ^ s) low), omega (arith, rw full at next, mul-lt-mul_of_pos_right high (pow_pos s)))

-- a number without a leading digit has one once it is moved up by its leading zeros, but for the 11 before that digit's place
pub record Moves (b z : ℕ) : Type 0 where
  pub before : 11 ≤ z
  pub places : z - 11 ≤ 52
  pub least : 2 ^ 52 ≤ b * 2 ^ (z - 11)
  pub most : b * 2 ^ (z - 11) < 2 ^ 53

pub moves : (b : ℕ) → 0 < b → b < 2 ^ 52 → Moves b (count_leading_zeros 64 b)
moves b h l = go (leading_top 64 b h (omega arith))
  where
    below : (j : ℕ) → 2 ^ j ≤ b → Dec (j < 52) → j < 52
    below j low (yes k) = k
    below j low (no k) = let m : 2 ^ 52 ≤ 2 ^ j = pow_mono {i = 52} {j = j} (omega arith) in absurd (omega arith)

    go : (j : ℕ) × (count_leading_zeros 64 b + suc j ≡ 64) × (2 ^ j ≤ b) × (b < 2 ^ suc j) → Moves b (count_leading_zeros 64 b)
    go (j, e, low, high) =
        let k = below j low (dec_lt j 52) in
        let up = lifted b j (count_leading_zeros 64 b - 11) (omega arith) low high in
        record { before = omega arith; places = omega arith; least = up.0; most = up.1 }

-- a double without a leading digit, moved up by s places until it has one
pub subnormal_argument : (b m s : ℕ) → b < 2 ^ 52 → s ≤ 52 → m ≡ b * 2 ^ s → 2 ^ 52 ≤ m → scaled_bits b * 2 ^ 1074 ≡ (2 ^ 52 + (m - 2 ^ 52)) * 2 ^ (52 + (1022 - s))
subnormal_argument b m s l k e h =
    let whole : m ≡ 2 ^ 52 + (m - 2 ^ 52) = omega arith in
    ap (λ (x : ℕ). x * 2 ^ 1074) (scaled_bits-low b l) ∙ moved_up b m s (52 + (1022 - s)) 1074 e (omega arith) ∙ ap (λ (x : ℕ). x * 2 ^ (52 + (1022 - s))) whole

-- a double with a leading digit
pub normal_argument : (b : ℕ) → 2 ^ 52 ≤ b → scaled_bits b * 2 ^ 1074 ≡ (2 ^ 52 + b % 2 ^ 52) * 2 ^ (52 + (b / 2 ^ 52 + 1021))
normal_argument b h =
    let t = b / 2 ^ 52 - 1 in
    let r = 2 ^ 52 + b % 2 ^ 52 in
    let value : scaled_bits b ≡ r * 2 ^ t = ap scaled_bits (sym (split_pattern b h)) ∙ scaled_bits-at t r (omega arith) (omega arith) in
    let places : t + 1074 ≡ 52 + (b / 2 ^ 52 + 1021) = omega arith in
    up_by (scaled_bits b) r t 1074 _ value places
  where
    up_by : (x r t k n : ℕ) → x ≡ r * 2 ^ t → t + k ≡ n → x * 2 ^ k ≡ r * 2 ^ n
    up_by x r t k n e f = ap (λ (y : ℕ). y * 2 ^ k) e ∙ sym (moved_up r (r * 2 ^ t) t k n refl f)
