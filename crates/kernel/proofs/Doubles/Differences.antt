-- Differences of doubles. `difference`: where y is less than x, x - y is the distance of their places, rounded. `sub_falls`: below x, the lesser of two numbers has the
-- difference that is not less, an infinite x included; `sub-not-below`: no such difference is below 0.0. So the greater of two differences is that of the lesser number
-- (`greater_sub`), and the greater of 0.0 and a difference is the difference (`first-sub`).
use Prim.Native.Nat.{ℕ, ◌+◌, ◌-◌, ◌*◌, ◌^◌, ◌<◌, ◌≤◌}
use native.Mathlib.Nat.{mul_assoc, mul_comm, mul_left_comm, mul-sub, add-mul, mul-pos, mul-le-mul_right, zero-mul}
use native.Mathlib.Omega.{arith}
use mathlib.Core.Path.{◌≡◌, refl, sym, ap, ap₂, subst, subst₂, ◌∙◌}
use mathlib.Core.Bool.{Bool, true, false, not, cond}
use borrow.Author.Tests.{ltb-true, ltb-false, le-ltb}
use lib.Dec.{T, ltb}
use lib.IntN.{ℤ}
use lib.Pow.{pow_pos}
use lib.Ieee as Ieee
use lib.Ieee.{Float, nan, inf, fin, binary64, up, down, below, sum, round, units, odd, lt, le, is_nan, of_bits}
use lib.Ieee.Bits.{of_bits-fits}
use lib.Ieee.Exact.{HasValue, odd_sign}
use lib.Ieee.Fits.{down_pos, round_is, sub-fits}
use lib.Ieee.Order.{drop, kept, round_mono}
use lib.Ieee.Scale.{finite, round_same}
use Rattle.kernel.specs.Number.{sub}
use Rattle.kernel.specs.Constants.{nought}
use Rattle.kernel.proofs.Doubles.Sizes.{halvings, sized, depth, magnitude, denominator}
use Rattle.kernel.proofs.Doubles.Same.{sign_bit, greater_second}
use Rattle.kernel.proofs.Doubles.Order.{lt_numbers}
use Rattle.kernel.proofs.Doubles.Places.{signed, place, Placed, lt-place}

-- ---- what a rounded fraction is

value_sign : (x : Float) (s : Bool) (a c : ℕ) → HasValue x s a c → sign_bit x ≡ s
value_sign nan s a c v = absurd v
value_sign (inf t) s a c v = absurd v
value_sign (fin t m e) s a c v = v.0

units_sign : (q k : ℕ) → sign_bit (units binary64 false q k) ≡ false
unfolding units
units_sign q k = go (ltb (q * 2 ^ k) (2 ^ 2098))
  where
    go : (b : Bool) → sign_bit (cond b (odd 54 false q k 1074) (inf false)) ≡ false
    go true = value_sign (odd 54 false q k 1074) false _ _ (odd_sign 54 false q k 1074)
    go false = refl

round_sign : (a c : ℕ) → sign_bit (round binary64 false a c) ≡ false
round_sign a c = ap sign_bit (round_is binary64 false a c) ∙ units_sign (kept 53 (a * 2 ^ 1074) c) (drop 53 (a * 2 ^ 1074) c)

-- ---- a difference as one of places

-- ±a - ±b, for ±b < ±a
abbrev gap : Bool → ℕ → Bool → ℕ → ℕ
gap false a false b = a - b
gap false a true b = a + b
gap true a false b = 0
gap true a true b = b - a

gap_sum : (s t : Bool) (a b c : ℕ) → below t b s a ≡ true → sum binary64 s a (not t) b c ≡ round binary64 false (gap s a t b) c
unfolding sum
gap_sum false false a b c h = let l = ltb-true b a h in rw (le-ltb a b (omega arith))
gap_sum false true a b c h = refl
gap_sum true false a b c h = absurd (let w : ◌≡◌ {A = ℕ} 0 1 = cc in omega arith)
gap_sum true true a b c h = rw h

gap_mul : (s t : Bool) (a b k : ℕ) → gap s a t b * k ≡ gap s (a * k) t (b * k)
gap_mul false false a b k = mul_comm (a - b) k ∙ mul-sub k a b ∙ ap₂ ◌-◌ (mul_comm k a) (mul_comm k b)
gap_mul false true a b k = add-mul a b k
gap_mul true false a b k = zero-mul k
gap_mul true true a b k = mul_comm (b - a) k ∙ mul-sub k b a ∙ ap₂ ◌-◌ (mul_comm k b) (mul_comm k a)

gap_place : (s t : Bool) (a b z : ℕ) → a ≤ z → b ≤ z → gap s a t b ≡ signed z s a - signed z t b
gap_place false false a b z h k = omega arith
gap_place false true a b z h k = omega arith
gap_place true false a b z h k = omega arith
gap_place true true a b z h k = omega arith

-- from the product of two denominators to a common one
common : (x d e a k : ℕ) → e * a ≡ k → x * d * k ≡ x * a * (e * d)
common x d e a k h = ap (λ (z : ℕ). x * d * z) (sym h) ∙ simp (mul_assoc, mul_comm, mul_left_comm)

module _ (n z : ℕ) (s t : Bool) (m l : ℕ) (e d : ℤ) (p : Placed n z (fin s m e)) (q : Placed n z (fin t l d)) where
  opened : sub (fin s m e) (fin t l d) ≡ sum binary64 s (m * up e * down d) (not t) (l * up d * down e) (down e * down d)
  unfolding Ieee.sub
  opened = refl

  scaled : gap s (m * up e * down d) t (l * up d * down e) * 2 ^ n ≡ gap s (sized n m e) t (sized n l d) * (down e * down d)
  scaled =
      gap_mul s t (m * up e * down d) (l * up d * down e) (2 ^ n)
      ∙ ap₂ (λ (u v : ℕ). gap s u t v)
      (common (m * up e) (down d) (down e) (2 ^ (n - halvings e)) (2 ^ n) (denominator n e p.deep))
      (common (l * up d) (down e) (down d) (2 ^ (n - halvings d)) (2 ^ n) (denominator n d q.deep) ∙ ap (λ (c : ℕ). sized n l d * c) (mul_comm (down d) (down e)))
      ∙ sym (gap_mul s t (sized n m e) (sized n l d) (down e * down d))

  fin-difference : lt (fin t l d) (fin s m e) ≡ true → sub (fin s m e) (fin t l d) ≡ round binary64 false (place n z (fin s m e) - place n z (fin t l d)) (2 ^ n)
  unfolding lt
  fin-difference h =
      let a = p.small in
      let b = q.small in
      opened
      ∙ gap_sum s t (m * up e * down d) (l * up d * down e) (down e * down d) h
      ∙ round_same binary64 false _ _ (gap s (sized n m e) t (sized n l d)) (2 ^ n) (mul-pos (down_pos e) (down_pos d)) (pow_pos n) scaled
      ∙ ap (λ (k : ℕ). round binary64 false k (2 ^ n)) (gap_place s t (sized n m e) (sized n l d) z (omega arith) (omega arith))

pub difference : (n z : ℕ) (x y : Float) → Placed n z x → Placed n z y → T (finite x) → T (finite y) → lt y x ≡ true
    → sub x y ≡ round binary64 false (place n z x - place n z y) (2 ^ n)
difference n z nan y p q f g h = absurd f
difference n z (inf s) y p q f g h = absurd f
difference n z (fin s m e) nan p q f g h = absurd g
difference n z (fin s m e) (inf t) p q f g h = absurd g
difference n z (fin s m e) (fin t l d) p q f g h = fin-difference n z s t m l e d p q h

-- ---- the order of differences

pub finite_number : (x : Float) → T (finite x) → T (not (is_nan x))
unfolding is_nan
finite_number nan f = f
finite_number (inf s) f = tt
finite_number (fin s m e) f = tt

-- an infinite x that something finite is below
infinite_sub : (s : Bool) (y : Float) → T (finite y) → lt y (inf s) ≡ true → sub (inf s) y ≡ inf false
unfolding Ieee.sub lt
infinite_sub s nan g h = absurd g
infinite_sub s (inf t) g h = absurd g
infinite_sub true (fin t l d) g h = absurd (let w : ◌≡◌ {A = ℕ} 0 1 = cc in omega arith)
infinite_sub false (fin t l d) g h = refl

-- of numbers y and z below a finite x, z not above y
finite_falls : (x y z : Float) → T (finite x) → T (finite y) → T (finite z) → lt y x ≡ true → lt z x ≡ true → lt y z ≡ false → T (le (sub x y) (sub x z))
finite_falls x y z fx fy fz h k o =
    let n : ℕ = depth x + depth y + depth z in
    let middle : ℕ = 1 + magnitude n x + magnitude n y + magnitude n z in
    let px : Placed n middle x = record { number = finite_number x fx; deep = omega arith; small = omega arith } in
    let py : Placed n middle y = record { number = finite_number y fy; deep = omega arith; small = omega arith } in
    let pz : Placed n middle z = record { number = finite_number z fz; deep = omega arith; small = omega arith } in
    let fall = ltb-false (place n middle y) (place n middle z) (sym (lt-place n middle y z py pz) ∙ o) in
    rw (difference n middle x y px py fx fy h, difference n middle x z px pz fx fz k)
    (round_mono binary64 _ (2 ^ n) _ (2 ^ n) (pow_pos n) (pow_pos n) (mul-le-mul_right (2 ^ n) (omega arith)))

nan-above : (y : Float) → lt y nan ≡ true → ⊥
unfolding is_nan
nan-above y h = (lt_numbers y nan (subst T (sym h) tt)).second

pub sub_falls : (x y z : Float) → T (finite y) → T (finite z) → lt y x ≡ true → lt z x ≡ true → lt y z ≡ false → T (le (sub x y) (sub x z))
unfolding le
sub_falls nan y z fy fz h k o = absurd (nan-above y h)
sub_falls (inf s) y z fy fz h k o = rw (infinite_sub s y fy h, infinite_sub s z fz k) tt
sub_falls (fin s m e) y z fy fz h k o = finite_falls (fin s m e) y z tt fy fz h k o

-- ---- differences and 0.0

-- a fraction that is rounded, or +infinity
data Distance (x : Float) : Type 0 where
  rounded : (a c : ℕ) → 0 < c → x ≡ round binary64 false a c → Distance x
  infinite : x ≡ inf false → Distance x

distance : (x y : Float) → T (finite y) → lt y x ≡ true → Distance (sub x y)
distance nan y f h = absurd (nan-above y h)
distance (inf s) y f h = infinite (infinite_sub s y f h)
distance (fin s m e) y f h =
    let n : ℕ = halvings e + depth y in
    let middle : ℕ = 1 + sized n m e + magnitude n y in
    let px : Placed n middle (fin s m e) = record { number = finite_number (fin s m e) tt; deep = omega arith; small = omega arith } in
    let py : Placed n middle y = record { number = finite_number y f; deep = omega arith; small = omega arith } in
    rounded _ (2 ^ n) (pow_pos n) (difference n middle (fin s m e) y px py tt f h)

distance_sign : (x : Float) → Distance x → sign_bit x ≡ false
distance_sign x (rounded a c h e) = ap sign_bit e ∙ round_sign a c
distance_sign x (infinite e) = ap sign_bit e

nought_rounded : nought ≡ round binary64 false 0 1
unfolding of_bits round
nought_rounded = refl

nought-below-infinity : T (le nought (inf false))
unfolding le of_bits
nought-below-infinity = tt

distance-not-below : (x : Float) → Distance x → T (le nought x)
distance-not-below x (rounded a c h e) = subst₂ (λ (u v : Float). T (le u v)) (sym nought_rounded) (sym e) (round_mono binary64 0 1 a c (pow_pos 0) h (omega arith))
distance-not-below x (infinite e) = rw e nought-below-infinity

pub sub-not-below : (x y : Float) → T (finite y) → lt y x ≡ true → T (le nought (sub x y))
sub-not-below x y f h = distance-not-below (sub x y) (distance x y f h)

-- ---- the greater one

pub first-sub : (x y : Float) → T (finite y) → lt y x ≡ true → cond (lt nought (sub x y)) (sub x y) nought ≡ sub x y
unfolding of_bits
first-sub x y f h =
    greater_second nought (sub x y) (of_bits-fits binary64 0) (sub-fits binary64 x y) refl (distance_sign (sub x y) (distance x y f h)) (sub-not-below x y f h)

pub greater_sub : (x y z : Float) → T (finite y) → T (finite z) → lt y x ≡ true → lt z x ≡ true → lt y z ≡ false → cond (lt (sub x y) (sub x z)) (sub x z) (sub x y) ≡ sub x z
greater_sub x y z f g h k o =
    greater_second (sub x y) (sub x z) (sub-fits binary64 x y) (sub-fits binary64 x z) (distance_sign (sub x y) (distance x y f h)) (distance_sign (sub x z) (distance x z g k))
    (sub_falls x y z f g h k o)
