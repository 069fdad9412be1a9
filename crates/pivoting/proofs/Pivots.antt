-- Laws of the choice of a pivot row. `best_none` and `best_more`: the best before the first row, and after one row more. `best_abs`: its ratio has no sign.
-- `pivot-row`: it is one of the rows. `scale_found`: a norm that answers question 5.
use Prim.Native.Nat.{ℕ, zero, suc, ◌+◌, ◌-◌, ◌<◌, ◌≤◌}
use native.Mathlib.Omega.{arith}
use native.Mathlib.Nat.{sub_self, eq-or-lt_of_le, le_of_suc-le-suc}
use mathlib.Core.Logic.{⊎_elim}
use mathlib.Core.Bool.{Bool, true, false, cond, not, ◌||◌, or-true}
use mathlib.Core.List.{List}
use mathlib.Core.Path.{◌≡◌, refl, sym, ap, ◌∙◌, subst}
use lib.Ieee.{Float, lt, of_bits}
use Rattle.kernel.specs.Number.{abs, div}
use Rattle.kernel.specs.Constants.{nought, min_scale}
use Rattle.dense.specs.Matrix.{nth, at}
use Rattle.pivoting.specs.declared.Pivot.{Pivot}
use Rattle.pivoting.specs.Pivot.{some_scale, consider, best_of, pivot}
use Rattle.dense.proofs.Signs.{abs-abs}
use Rattle.pivoting.proofs.Ratios.{abs-ratio}

-- before the first row
pub best_none : (m s : List Float) (w k : ℕ) → record { ratio = nought; row = k } ≡ best_of m s w k (k - k)
unfolding best_of
best_none m s w k = ap (λ (d : ℕ). best_of m s w k d) (sym (sub_self k))

-- row i, after the rows k to i - 1
pub best_more : (m s : List Float) (w k i : ℕ) {b r : Pivot} {x : Float} → k ≤ i → b ≡ best_of m s w k (i - k) → x ≡ at m w i k → r ≡ consider b (nth s i) x i → r ≡ best_of m s w k (suc i - k)
unfolding best_of
best_more m s w k i {b} {r} {x} h p q e = e ∙ one_more ∙ ap (λ (d : ℕ). best_of m s w k d) count
  where
    count : suc (i - k) ≡ suc i - k
    count = omega arith

    place : i ≡ k + (i - k)
    place = omega arith

    one_more : consider b (nth s i) x i ≡ consider (best_of m s w k (i - k)) (nth s (k + (i - k))) (at m w (k + (i - k)) k) (k + (i - k))
    one_more =
        ap (λ (z : Pivot). consider z (nth s i) x i) p
        ∙ ap (λ (z : Float). consider (best_of m s w k (i - k)) (nth s i) z i) q
        ∙ ap (λ (z : ℕ). consider (best_of m s w k (i - k)) (nth s z) (at m w z k) z) place

-- the row that is considered is the one before or the new one
consider-row : (P : ℕ → Type 0) (b : Pivot) (s x : Float) (i : ℕ) → P b.row → P i → P (consider b s x i).row
unfolding consider
consider-row P b s x i p q = outer (lt s min_scale)
  where
    inner : (t : Bool) → P (cond t (record { ratio = div (abs x) s; row = i }) b).row
    inner true = q
    inner false = p

    outer : (t : Bool) → P (cond t b (cond (lt b.ratio (div (abs x) s)) (record { ratio = div (abs x) s; row = i }) b)).row
    outer true = p
    outer false = inner (lt b.ratio (div (abs x) s))

-- the best ratio has no sign
consider-abs : (b : Pivot) (s x : Float) (i : ℕ) → abs b.ratio ≡ b.ratio → abs (consider b s x i).ratio ≡ (consider b s x i).ratio
unfolding consider
consider-abs b s x i p = outer (lt s min_scale) refl
  where
    this : Pivot
    this = record { ratio = div (abs x) s; row = i }

    inner : (t : Bool) → lt s min_scale ≡ false → abs (cond t this b).ratio ≡ (cond t this b).ratio
    inner true e = ap abs (sym (abs-ratio x s e)) ∙ abs-abs (div x s) ∙ abs-ratio x s e
    inner false e = p

    outer : (t : Bool) → lt s min_scale ≡ t
        → abs (cond t b (cond (lt b.ratio (div (abs x) s)) this b)).ratio ≡ (cond t b (cond (lt b.ratio (div (abs x) s)) this b)).ratio
    outer true e = p
    outer false e = inner (lt b.ratio (div (abs x) s)) e

best_unsigned : (m s : List Float) (w k d : ℕ) → abs (best_of m s w k d).ratio ≡ (best_of m s w k d).ratio
unfolding best_of abs of_bits
best_unsigned m s w k zero = refl
best_unsigned m s w k (suc d) = consider-abs (best_of m s w k d) (nth s (k + d)) (at m w (k + d) k) (k + d) (best_unsigned m s w k d)

pub best_abs : (m s : List Float) (w k d : ℕ) {b : Pivot} → b ≡ best_of m s w k d → abs b.ratio ≡ b.ratio
best_abs m s w k d e = rw e (best_unsigned m s w k d)

best_row : (m s : List Float) (n w k d : ℕ) → k < n → k + d ≤ n → (best_of m s w k d).row < n
unfolding best_of
best_row m s n w k zero h l = h
best_row m s n w k (suc d) h l =
    consider-row (λ (q : ℕ). q < n) (best_of m s w k d) (nth s (k + d)) (at m w (k + d) k) (k + d) (best_row m s n w k d h (omega arith)) (omega arith)

-- the pivot b stands in one of the n rows
pub pivot-row : (m s : List Float) (n w k : ℕ) {b : Pivot} → k < n → b ≡ pivot m s n w k → b.row < n
pivot-row m s n w k h e = subst (λ (q : Pivot). q.row < n) (sym e) (best_row m s n w k (n - k) h (omega arith))

-- a norm that is not too small answers question 5 for all
pub scale_found : (s : List Float) (n j : ℕ) → j < n → lt (nth s j) min_scale ≡ false → some_scale n s ≡ true
unfolding some_scale
scale_found s zero j h e = absurd (omega arith)
scale_found s (suc n) j h e =
    ⊎_elim
    (λ (l : j ≡ n). ap (λ (b : Bool). some_scale n s || not b) (ap (λ (k : ℕ). lt (nth s k) min_scale) (sym l) ∙ e) ∙ or-true (some_scale n s))
    (λ (l : j < n). rw (scale_found s n j l e))
    (eq-or-lt_of_le (le_of_suc-le-suc h))
