-- Doubles and their negatives. `sub_opposite`: y - x is the negative of x - y, or both are +0.0. `opposite_product`: (d a) e with d and e turned round
-- is the same, or both are zeros.
use Prim.Native.Nat.{ℕ, zero, suc, ◌+◌, ◌*◌, ◌-◌, ◌/◌, ◌%◌, ◌^◌, ◌<◌, compare}
use native.Mathlib.Omega.{arith}
use native.Mathlib.Nat.{zero-mul, mul-pos, sub_self}
use native.Mathlib.Decide.{dec_lt}
use mathlib.Core.Bool.{Bool, true, false, not, cond, beq}
use mathlib.Core.Logic.{◌⊎◌, inl, inr}
use mathlib.Core.Path.{◌≡◌, refl, sym, ap, ◌∙◌}
use borrow.Author.Tests.{lt-ltb, le-ltb}
use lib.Dec.{ltb, eqb}
use lib.IntN.{ℤ, pos}
use lib.Ieee as Ieee
use lib.Ieee.{Float, nan, inf, fin, binary64, unlike, round, units, odd, neg, up, down, low, emax, prec, size, nearest}
use lib.Ieee.Fits.{down_pos, round_is}
use lib.Ieee.Scale.{round_same}
use Rattle.kernel.specs.Number.{add, sub, mul}
use Rattle.kernel.proofs.Doubles.Commute.{add_float_comm, mul_float_comm}

neg-neg : (x : Float) → neg (neg x) ≡ x
unfolding neg
neg-neg nan = refl
neg-neg (inf true) = refl
neg-neg (inf false) = refl
neg-neg (fin true m e) = refl
neg-neg (fin false m e) = refl

-- ---- rounding

units-neg : (s : Bool) (q k : ℕ) → units binary64 (not s) q k ≡ neg (units binary64 s q k)
unfolding units odd neg
units-neg s zero k = go (ltb (zero * 2 ^ k) (2 ^ (low binary64 + suc (emax binary64))))
  where
    go : (b : Bool) → cond b (fin (not s) zero (pos zero)) (inf (not s)) ≡ neg (cond b (fin s zero (pos zero)) (inf s))
    go true = refl
    go false = refl
units-neg s (suc q) k = go (ltb (suc q * 2 ^ k) (2 ^ (low binary64 + suc (emax binary64)))) _ _
  where
    go : (b : Bool) (m : ℕ) (e : ℤ) → cond b (fin (not s) m e) (inf (not s)) ≡ neg (cond b (fin s m e) (inf s))
    go true m e = refl
    go false m e = refl

pub round-neg : (s : Bool) (a c : ℕ) → round binary64 (not s) a c ≡ neg (round binary64 s a c)
round-neg s a c =
    let k = size (a * 2 ^ low binary64 / c) - prec binary64 in
    let u = c * 2 ^ k in
    round_is binary64 (not s) a c ∙ units-neg s (nearest (a * 2 ^ low binary64 / u) (compare (a * 2 ^ low binary64 % u * 2) u)) k ∙ ap neg (sym (round_is binary64 s a c))

-- a sum or product that is exactly 0
pub round-zero : (s : Bool) (c : ℕ) → 0 < c → round binary64 s 0 c ≡ fin s 0 (pos 0)
unfolding round units odd size
round-zero s c h = round_same binary64 s 0 c 0 1 h (omega arith) (sym (zero-mul c)) ∙ refl

-- ---- products

unlike-not : (s t : Bool) → unlike s (not t) ≡ not (unlike s t)
unlike-not true true = refl
unlike-not true false = refl
unlike-not false true = refl
unlike-not false false = refl

cond-neg : (b s t : Bool) → cond b nan (inf (unlike s (not t))) ≡ neg (cond b nan (inf (unlike s t)))
unfolding neg
cond-neg true s t = refl
cond-neg false s t = ap inf (unlike-not s t)

mul-neg : (x y : Float) → mul x (neg y) ≡ neg (mul x y)
unfolding Ieee.mul neg
mul-neg nan y = refl
mul-neg (inf s) nan = refl
mul-neg (inf s) (inf t) = ap inf (unlike-not s t)
mul-neg (inf s) (fin t n d) = cond-neg (eqb n 0) s t
mul-neg (fin s m e) nan = refl
mul-neg (fin s m e) (inf t) = cond-neg (eqb m 0) s t
mul-neg (fin s m e) (fin t n d) =
    ap (λ (u : Bool). round binary64 u (m * up e * (n * up d)) (down e * down d)) (unlike-not s t) ∙ round-neg (unlike s t) (m * up e * (n * up d)) (down e * down d)

-- ---- sums

-- y is the negative of x, or both are +0.0
abbrev pub Opposite : Float → Float → Type 0
Opposite x y = (y ≡ neg x) ⊎ ((x ≡ fin false 0 (pos 0)) × (y ≡ fin false 0 (pos 0)))

sum_opposite : (s t : Bool) (a b c : ℕ) → 0 < c → Dec (a < b) → Dec (b < a) → Opposite (Ieee.sum binary64 s a t b c) (Ieee.sum binary64 (not s) a (not t) b c)
unfolding Ieee.sum
sum_opposite true true a b c h p q = inl (round-neg true (a + b) c)
sum_opposite false false a b c h p q = inl (round-neg false (a + b) c)
sum_opposite true false a b c h (yes p) q = rw (lt-ltb a b p) (inl (round-neg false (b - a) c))
sum_opposite true false a b c h (no p) (yes q) = rw (le-ltb a b (omega arith), lt-ltb b a q) (inl (round-neg true (a - b) c))
sum_opposite true false a b c h (no p) (no q) =
    let e : a ≡ b = omega arith in
    rw (e, le-ltb b b (omega arith), sub_self b) (inr (round-zero false c h, round-zero false c h))
sum_opposite false true a b c h (yes p) q = rw (lt-ltb a b p) (inl (round-neg true (b - a) c))
sum_opposite false true a b c h (no p) (yes q) = rw (le-ltb a b (omega arith), lt-ltb b a q) (inl (round-neg false (a - b) c))
sum_opposite false true a b c h (no p) (no q) =
    let e : a ≡ b = omega arith in
    rw (e, le-ltb b b (omega arith), sub_self b) (inr (round-zero false c h, round-zero false c h))

-- ---- differences

inf_opposite : (s t : Bool) → Opposite (cond (beq s t) (inf s) nan) (cond (beq (not s) (not t)) (inf (not s)) nan)
unfolding neg
inf_opposite true true = inl refl
inf_opposite true false = inl refl
inf_opposite false true = inl refl
inf_opposite false false = inl refl

add_opposite : (x y : Float) → Opposite (add x y) (add (neg x) (neg y))
unfolding Ieee.add neg
add_opposite nan y = inl refl
add_opposite (inf s) nan = inl refl
add_opposite (inf s) (inf t) = inf_opposite s t
add_opposite (inf s) (fin t n d) = inl refl
add_opposite (fin s m e) nan = inl refl
add_opposite (fin s m e) (inf t) = inl refl
add_opposite (fin s m e) (fin t n d) =
    sum_opposite s t (m * up e * down d) (n * up d * down e) (down e * down d) (mul-pos (down_pos e) (down_pos d)) (dec_lt _ _) (dec_lt _ _)

pub sub_opposite : (x y : Float) → Opposite (sub x y) (sub y x)
unfolding Ieee.sub
sub_opposite x y = rw (other_way) at (add_opposite x (neg y))
  where
    other_way : add (neg x) (neg (neg y)) ≡ add y (neg x)
    other_way = ap (λ (z : Float). add (neg x) z) (neg-neg y) ∙ add_float_comm (neg x) y

-- ---- products of differences

-- 0.0 or -0.0
abbrev pub Zero : Float → Type 0
Zero x = (s : Bool) × (x ≡ fin s 0 (pos 0))

-- equal, or both zeros
abbrev pub EqualOrZero : Float → Float → Type 0
EqualOrZero x y = (x ≡ y) ⊎ (Zero x × Zero y)

zero-times : (s : Bool) (x : Float) → (mul (fin s 0 (pos 0)) x ≡ nan) ⊎ Zero (mul (fin s 0 (pos 0)) x)
unfolding Ieee.mul
zero-times s nan = inl refl
zero-times s (inf t) = inl refl
zero-times s (fin t n d) =
    let u = unlike s t in
    inr (u, ap (λ (a : ℕ). round binary64 u a (1 * down d)) (zero-mul (n * up d)) ∙ round-zero u (1 * down d) (mul-pos (omega arith) (down_pos d)))

-- a NaN and a zero are alike their negatives
negated_equal : {x : Float} → (x ≡ nan) ⊎ Zero x → EqualOrZero x (neg x)
unfolding neg
negated_equal (inl e) = inl (rw e)
negated_equal (inr (s, e)) = inr ((s, e), (not s, ap neg e))

neg-mul : (x y : Float) → mul (neg x) y ≡ neg (mul x y)
neg-mul x y = mul_float_comm (neg x) y ∙ mul-neg y x ∙ ap neg (mul_float_comm y x)

-- a zero times anything, and then anything
after-zero : (s : Bool) (a e : Float) → EqualOrZero (mul (mul (fin s 0 (pos 0)) a) e) (mul (mul (fin s 0 (pos 0)) a) (neg e))
unfolding Ieee.mul
after-zero s a e = go (zero-times s a)
  where
    go : (mul (fin s 0 (pos 0)) a ≡ nan) ⊎ Zero (mul (fin s 0 (pos 0)) a) → EqualOrZero (mul (mul (fin s 0 (pos 0)) a) e) (mul (mul (fin s 0 (pos 0)) a) (neg e))
    go (inl p) = inl (rw p)
    go (inr (t, p)) = rw (p, mul-neg (fin t 0 (pos 0)) e) (negated_equal (zero-times t e))

pub opposite_product : (a : Float) {d d' e e' : Float} → Opposite d d' → Opposite e e' → EqualOrZero (mul (mul d a) e) (mul (mul d' a) e')
opposite_product a {d} {e = e} (inl p) (inl q) = inl (rw (p, q, neg-mul d a, mul-neg (neg (mul d a)) e, neg-mul (mul d a) e, neg-neg (mul (mul d a) e)))
opposite_product a {e = e} (inr (p, q)) (inl r) = rw (p, q, r) (after-zero false a e)
opposite_product a {d} (inl p) (inr (q, r)) =
    rw (p, q, r, neg-mul d a, neg-mul (mul d a) (fin false 0 (pos 0)), mul_float_comm (mul d a) (fin false 0 (pos 0))) (negated_equal (zero-times false (mul d a)))
opposite_product a (inr (p, q)) (inr (r, s)) = inl (rw (p, q, r, s))
