-- The order of doubles, infinities included. `lt` is irreflexive and transitive (`lt-irreflexive`, `lt-transitive`); of two numbers that are no NaN one is less or they
-- are equal (`lt_trichotomy`), and never both (`lt-not-eq`); off NaN `eq` is an equivalence (`eq_reflexive`, `eq-symmetric`, `eq-transitive`), and `lt` respects it
-- on both sides (`lt-eq`, `eq-lt`); +0 and -0 are equal (`zeros_equal`). What passes a test is no NaN (`lt_numbers`, `eq_numbers`).
use Prim.Native.Nat.{ℕ, ◌<◌}
use native.Mathlib.Decide.{dec_lt}
use native.Mathlib.Omega.{arith}
use mathlib.Core.Path.{◌≡◌, refl, subst, subst⁻¹}
use mathlib.Core.Logic.{◌⊎◌, inl, inr}
use mathlib.Core.Bool.{Bool, true, false, not}
use lib.Dec.{T, ltb, eqb, ltb→lt, lt→ltb, eqb→eq, eqb_refl}
use lib.IntN.{pos}
use lib.Ieee.{Float, nan, inf, fin, is_nan, lt, eq}
use Rattle.std.proofs.lemmas.Float.{lt_irrefl, lt_trans, lt_of_lt_of_le, lt_of_le_of_lt, le_of_eq, eq_flip, eq_trans, eq-not_lt}
use Rattle.kernel.proofs.Doubles.Places.{Line, line}

-- ---- what passes a test is no NaN

pub record Numbers (x y : Float) : Type 0 where
  pub first : T (not (is_nan x))
  pub second : T (not (is_nan y))

pub lt_numbers : (x y : Float) → T (lt x y) → Numbers x y
unfolding lt is_nan
lt_numbers nan y t = absurd t
lt_numbers (inf s) nan t = absurd t
lt_numbers (inf s) (inf u) t = record { first = tt; second = tt }
lt_numbers (inf s) (fin u n d) t = record { first = tt; second = tt }
lt_numbers (fin s m e) nan t = absurd t
lt_numbers (fin s m e) (inf u) t = record { first = tt; second = tt }
lt_numbers (fin s m e) (fin u n d) t = record { first = tt; second = tt }

pub eq_numbers : (x y : Float) → T (eq x y) → Numbers x y
unfolding eq is_nan
eq_numbers nan y t = absurd t
eq_numbers (inf s) nan t = absurd t
eq_numbers (inf s) (inf u) t = record { first = tt; second = tt }
eq_numbers (inf s) (fin u n d) t = absurd t
eq_numbers (fin s m e) nan t = absurd t
eq_numbers (fin s m e) (inf u) t = absurd t
eq_numbers (fin s m e) (fin u n d) t = record { first = tt; second = tt }

-- ---- a test and the places

of_less : {b : Bool} (m n : ℕ) → b ≡ ltb m n → m < n → T b
of_less m n e h = subst⁻¹ T e (lt→ltb m n h)

of_same : {b : Bool} (m n : ℕ) → b ≡ eqb m n → m ≡ n → T b
of_same m n e h = subst⁻¹ T e (subst (λ (k : ℕ). T (eqb m k)) h (eqb_refl m))

-- ---- the laws

pub eq_reflexive : (x : Float) → T (not (is_nan x)) → T (eq x x)
eq_reflexive x h = let l = line x x x h h h in of_same (l.at x) (l.at x) l.eq_xy refl

pub lt-irreflexive : (x : Float) → T (lt x x) → ⊥
lt-irreflexive x = lt_irrefl x

pub eq-symmetric : (x y : Float) → T (eq x y) → T (eq y x)
eq-symmetric x y = eq_flip x y

pub lt-not-eq : (x y : Float) → T (lt x y) → T (eq x y) → ⊥
lt-not-eq x y t u = eq-not_lt x y u t

pub lt_trichotomy : (x y : Float) → T (not (is_nan x)) → T (not (is_nan y)) → T (lt x y) ⊎ (T (eq x y) ⊎ T (lt y x))
lt_trichotomy x y h k = let l = line x y x h k h in go l (dec_lt (l.at x) (l.at y)) (dec_lt (l.at y) (l.at x))
  where
    go : (l : Line x y x) → Dec (l.at x < l.at y) → Dec (l.at y < l.at x) → T (lt x y) ⊎ (T (eq x y) ⊎ T (lt y x))
    go l (yes p) d = inl (of_less (l.at x) (l.at y) l.lt_xy p)
    go l (no p) (yes q) = inr (inr (of_less (l.at y) (l.at x) l.lt_yz q))
    go l (no p) (no q) = inr (inl (of_same (l.at x) (l.at y) l.eq_xy (omega arith)))

-- of three numbers
module _ (x y z : Float) where
  pub lt-transitive : T (lt x y) → T (lt y z) → T (lt x z)
  lt-transitive = lt_trans x y z

  pub lt-eq : T (lt x y) → T (eq y z) → T (lt x z)
  lt-eq t u = lt_of_lt_of_le x y z t (le_of_eq y z u)

  pub eq-lt : T (eq x y) → T (lt y z) → T (lt x z)
  eq-lt t u = lt_of_le_of_lt x y z (le_of_eq x y t) u

  pub eq-transitive : T (eq x y) → T (eq y z) → T (eq x z)
  eq-transitive = eq_trans x y z

pub zeros_equal : T (eq (fin false 0 (pos 0)) (fin true 0 (pos 0)))
unfolding eq
zeros_equal = tt
