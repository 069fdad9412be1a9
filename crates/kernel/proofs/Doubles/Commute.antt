-- Sums and products of binary64 numbers do not depend on the order of their two operands: `add_float_comm`, `mul_float_comm`.
use Prim.Native.Nat.{ℕ, ◌*◌, ◌<◌}
use native.Mathlib.Omega.{arith}
use native.Mathlib.Nat.{mul_comm, add_comm}
use native.Mathlib.Decide.{dec_lt}
use mathlib.Core.Bool.{Bool, true, false, beq, cond}
use mathlib.Core.Path.{◌≡◌, refl, ap, ◌∙◌}
use borrow.Author.Tests.{lt-ltb, le-ltb}
use lib.Dec.{eqb}
use lib.Ieee as Ieee
use lib.Ieee.{Float, nan, inf, fin, binary64, unlike, round, up, down}
use Rattle.kernel.specs.Number.{add, mul}

unlike_comm : (s t : Bool) → unlike s t ≡ unlike t s
unlike_comm true true = refl
unlike_comm true false = refl
unlike_comm false true = refl
unlike_comm false false = refl

pub mul_float_comm : (x y : Float) → mul x y ≡ mul y x
unfolding Ieee.mul
mul_float_comm nan nan = refl
mul_float_comm nan (inf t) = refl
mul_float_comm nan (fin t n d) = refl
mul_float_comm (inf s) nan = refl
mul_float_comm (inf s) (inf t) = ap inf (unlike_comm s t)
mul_float_comm (inf s) (fin t n d) = ap (λ (u : Bool). cond (eqb n 0) nan (inf u)) (unlike_comm s t)
mul_float_comm (fin s m e) nan = refl
mul_float_comm (fin s m e) (inf t) = ap (λ (u : Bool). cond (eqb m 0) nan (inf u)) (unlike_comm s t)
mul_float_comm (fin s m e) (fin t n d) =
    ap (λ (u : Bool). round binary64 u (m * up e * (n * up d)) (down e * down d)) (unlike_comm s t)
    ∙ ap (λ (v : ℕ). round binary64 (unlike t s) v (down e * down d)) (mul_comm (m * up e) (n * up d))
    ∙ ap (λ (v : ℕ). round binary64 (unlike t s) (n * up d * (m * up e)) v) (mul_comm (down e) (down d))

-- the two magnitudes of a sum change places
sum_swap : (s t : Bool) (a b c : ℕ) → Dec (a < b) → Dec (b < a) → Ieee.sum binary64 s a t b c ≡ Ieee.sum binary64 t b s a c
unfolding Ieee.sum
sum_swap true true a b c p q = ap (λ (v : ℕ). round binary64 true v c) (add_comm a b)
sum_swap false false a b c p q = ap (λ (v : ℕ). round binary64 false v c) (add_comm a b)
sum_swap true false a b c (yes p) q = rw (lt-ltb a b p, le-ltb b a (omega arith))
sum_swap true false a b c (no p) (yes q) = rw (le-ltb a b (omega arith), lt-ltb b a q)
sum_swap true false a b c (no p) (no q) = let e : a ≡ b = omega arith in rw (e, le-ltb b b (omega arith))
sum_swap false true a b c (yes p) q = rw (lt-ltb a b p, le-ltb b a (omega arith))
sum_swap false true a b c (no p) (yes q) = rw (le-ltb a b (omega arith), lt-ltb b a q)
sum_swap false true a b c (no p) (no q) = let e : a ≡ b = omega arith in rw (e, le-ltb b b (omega arith))

inf_swap : (s t : Bool) → cond (beq s t) (inf s) nan ≡ cond (beq t s) (inf t) nan
inf_swap true true = refl
inf_swap true false = refl
inf_swap false true = refl
inf_swap false false = refl

pub add_float_comm : (x y : Float) → add x y ≡ add y x
unfolding Ieee.add
add_float_comm nan nan = refl
add_float_comm nan (inf t) = refl
add_float_comm nan (fin t n d) = refl
add_float_comm (inf s) nan = refl
add_float_comm (inf s) (inf t) = inf_swap s t
add_float_comm (inf s) (fin t n d) = refl
add_float_comm (fin s m e) nan = refl
add_float_comm (fin s m e) (inf t) = refl
add_float_comm (fin s m e) (fin t n d) =
    ap (λ (c : ℕ). Ieee.sum binary64 s (m * up e * down d) t (n * up d * down e) c) (mul_comm (down e) (down d))
    ∙ sum_swap s t (m * up e * down d) (n * up d * down e) (down d * down e) (dec_lt _ _) (dec_lt _ _)
