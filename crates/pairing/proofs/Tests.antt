-- Laws of tests: `some_at` and `some_where` say what it means that some number below n passes.
use Prim.Native.Nat.{ℕ, zero, suc, ◌<◌}
use native.Mathlib.Omega.{arith}
use native.Mathlib.Nat.{eq-or-lt_of_le, le_of_suc-le-suc}
use mathlib.Core.Path.{◌≡◌, refl, subst}
use mathlib.Core.Logic.{◌⊎◌, inl, inr, ⊎_elim}
use mathlib.Core.Bool.{Bool, true, false, not, ◌||◌}
use lib.Dec.{T, T_not}
pub use lib.Ieee.Fits.{and_i as both, and_l as left, and_r as right}
pub use lib.Ieee.Bits.{is_true, is_false}
pub use Rattle.std.proofs.Math.Facts.{or_yes as or_cases}
use Rattle.pairing.specs.Pairing.{some}

-- a test passes or it fails
pub either : (b : Bool) → T b ⊎ T (not b)
either true = inl tt
either false = inr tt

pub or_left : (a b : Bool) → T a → T (a || b)
or_left true b t = tt
or_left false b t = absurd t

pub or_right : (a b : Bool) → T b → T (a || b)
or_right true b t = tt
or_right false b t = t

-- two tests that pass alike are the same
pub alike : (a b : Bool) → (T a → T b) → (T b → T a) → a ≡ b
alike true true f g = refl
alike true false f g = absurd (f tt)
alike false true f g = absurd (g tt)
alike false false f g = refl

pub some_at : (n : ℕ) (test : ℕ → Bool) (k : ℕ) → k < n → T (test k) → T (some n test)
unfolding some
some_at zero test k h t = absurd (omega arith)
some_at (suc n) test k h t =
    ⊎_elim
    (λ (e : k ≡ n). or_right (some n test) (test n) (subst (λ (x : ℕ). T (test x)) e t))
    (λ (l : k < n). or_left (some n test) (test n) (some_at n test k l t))
    (eq-or-lt_of_le (le_of_suc-le-suc h))

pub some_where : (n : ℕ) (test : ℕ → Bool) → T (some n test) → (k : ℕ) × (k < n) × T (test k)
unfolding some
some_where zero test t = absurd t
some_where (suc n) test t = go (or_cases (some n test) (test n) t) (some_where n test)
  where
    go : T (some n test) ⊎ T (test n) → (T (some n test) → (k : ℕ) × (k < n) × T (test k)) → (k : ℕ) × (k < suc n) × T (test k)
    go (inl s) before = let w = before s in (w.0, omega arith, w.2)
    go (inr s) before = (n, omega arith, s)

-- none below n passes
pub none-at : (n : ℕ) (test : ℕ → Bool) → T (not (some n test)) → (k : ℕ) → k < n → T (test k) → ⊥
none-at n test t k h s = T_not (some n test) t (some_at n test k h s)
