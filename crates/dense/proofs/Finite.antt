-- Laws of questions 3 and 4. `told_finite`: std's word for a finite double is the kernel's. `finite_more`: one finite entry more. `finite_never`: an entry that is not
-- finite answers for all. `finite-entry`: each entry is.
use Prim.Native.Nat.{ℕ, zero, suc, ◌+◌, ◌<◌}
use native.Mathlib.Omega.{arith}
use native.Mathlib.Numerals.{add-one}
use native.Mathlib.Nat.{eq-or-lt_of_le, le_of_suc-le-suc}
use mathlib.Core.Bool.{Bool, true, false, ◌&&◌, and-false}
use mathlib.Core.List.{List}
use mathlib.Core.Logic.{⊎_elim}
use mathlib.Core.Path.{◌≡◌, refl, ap, ◌∙◌}
use lib.Ieee.{Float}
use Rattle.std.specs.Float.{nan, inf, fin, float_is_finite}
use Rattle.kernel.specs.Number.{finite}
use Rattle.dense.specs.Matrix.{nth, finite_entries}
use Rattle.std.proofs.lemmas.Bool.{and_parts}

pub told_finite : (x : Float) → float_is_finite x ≡ finite x
unfolding float_is_finite
told_finite nan = refl
told_finite (inf s) = refl
told_finite (fin s m e) = refl

pub finite_more : (a : List Float) (l : ℕ) → finite_entries a l ≡ true → finite (nth a l) ≡ true → finite_entries a (l + 1) ≡ true
unfolding finite_entries
finite_more a l p q = rw (add-one, p, q)

pub finite_never : (a : List Float) (n j : ℕ) → j < n → finite (nth a j) ≡ false → finite_entries a n ≡ false
unfolding finite_entries
finite_never a zero j h e = absurd (omega arith)
finite_never a (suc n) j h e =
    ⊎_elim
    (λ (s : j ≡ n). ap (λ (b : Bool). finite_entries a n && b) (ap (λ (k : ℕ). finite (nth a k)) (omega arith) ∙ e) ∙ and-false (finite_entries a n))
    (λ (s : j < n). rw (finite_never a n j s e))
    (eq-or-lt_of_le (le_of_suc-le-suc h))

pub finite-entry : (a : List Float) (n j : ℕ) → finite_entries a n ≡ true → j < n → finite (nth a j) ≡ true
unfolding finite_entries
finite-entry a zero j e h = absurd (omega arith)
finite-entry a (suc n) j e h =
    ⊎_elim
    (λ (s : j ≡ n). ap (λ (k : ℕ). finite (nth a k)) s ∙ (and_parts (finite_entries a n) (finite (nth a n)) e).1)
    (λ (s : j < n). finite-entry a n j (and_parts (finite_entries a n) (finite (nth a n)) e).0 s)
    (eq-or-lt_of_le (le_of_suc-le-suc h))
