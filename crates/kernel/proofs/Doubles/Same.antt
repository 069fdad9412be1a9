-- Doubles that are equal and have one sign are the same (`eq-same`); so that of two of sign +, which are in order, the second is the greater one (`greater_second`).
use Prim.Native.Nat.{ℕ, ◌+◌, ◌-◌, ◌*◌, ◌/◌, ◌^◌}
use native.Mathlib.Nat.{mul_right_comm}
use mathlib.Core.Path.{◌≡◌, refl, sym, ap, ◌∙◌}
use mathlib.Core.Bool.{Bool, true, false, cond, ◌||◌, beq}
use lib.Dec.{T, eqb, eqb→eq}
use lib.IntN.{ℤ}
use lib.Ieee.{Float, nan, inf, fin, binary64, top, hid, up, down, size, lt, eq, le, fits, of_bits, to_bits}
use lib.Ieee.Bits.{of_bits-to_bits}
use lib.Ieee.Fits.{and_l, down_pos}
use lib.Ieee.Nearest.{div_same}

abbrev pub sign_bit : Float → Bool
sign_bit nan = false
sign_bit (inf s) = s
sign_bit (fin s m e) = s

same-pattern : (s : Bool) (m l : ℕ) (e d : ℤ) → m * up e * down d ≡ l * up d * down e → to_bits binary64 (fin s m e) ≡ to_bits binary64 (fin s l d)
unfolding to_bits
same-pattern s m l e d h =
    let scale = 2 ^ 1074 in
    ap (λ (n : ℕ). let k = size n - 53 in cond s (top binary64) 0 + k * hid binary64 + n / 2 ^ k)
    (div_same (m * up e * scale) (down e) (l * up d * scale) (down d) (down_pos e) (down_pos d)
    (mul_right_comm (m * up e) scale (down d) ∙ ap (λ (x : ℕ). x * scale) h ∙ mul_right_comm (l * up d) (down e) scale))

pub eq-same : (x y : Float) → T (fits binary64 x) → T (fits binary64 y) → sign_bit x ≡ sign_bit y → T (eq x y) → x ≡ y
unfolding eq
eq-same nan y f g h t = absurd t
eq-same (inf s) nan f g h t = absurd t
eq-same (inf s) (inf u) f g h t = ap inf h
eq-same (inf s) (fin u l d) f g h t = absurd t
eq-same (fin s m e) nan f g h t = absurd t
eq-same (fin s m e) (inf u) f g h t = absurd t
eq-same (fin s m e) (fin u l d) f g h t =
    let a = m * up e * down d in
    let b = l * up d * down e in
    sym (of_bits-to_bits binary64 (fin s m e) f)
    ∙ ap (λ (b : Bool). of_bits binary64 (to_bits binary64 (fin b m e))) h
    ∙ ap (of_bits binary64) (same-pattern u m l e d (eqb→eq a b (and_l (eqb a b) (beq s u || eqb a 0) t)))
    ∙ of_bits-to_bits binary64 (fin u l d) g

-- the greater of two that are in order
pub greater_second : (x y : Float) → T (fits binary64 x) → T (fits binary64 y) → sign_bit x ≡ false → sign_bit y ≡ false → T (le x y) → cond (lt x y) y x ≡ y
unfolding le
greater_second x y f g h k t = go (lt x y) t
  where
    go : (b : Bool) → T (b || eq x y) → cond b y x ≡ y
    go true u = refl
    go false u = eq-same x y f g (h ∙ sym k) u
