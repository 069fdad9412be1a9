-- Laws of the sums above the diagonal, of one pair, row or sweep more, and of the sweep at which the test stops. `row-symmetric` and `rows-symmetric`: the states of a
-- matrix that is symmetric bit by bit are, so that the slices stay what a sweep asks for (`slices_rotated`, `slices_row`, `slices_swept`). `Sweeping` is what a loop
-- of sweeps holds: `first_sweep`, `next_sweep`, and `stops_now` and `stops_never` where it ends.
use Prim.Native.Nat.{ℕ, zero, suc, ◌+◌, ◌-◌, ◌<◌, ◌≤◌}
use native.Mathlib.Omega.{arith}
use native.Mathlib.Numerals.{add-one}
use mathlib.Core.Bool.{Bool, true, false}
use mathlib.Core.List.{List}
use mathlib.Core.Path.{◌≡◌, refl, sym, ap, ◌∙◌, subst}
use lib.Ieee.{Float, lt}
use lib.ListN.{length}
use Rattle.kernel.specs.Number.{mul}
use Rattle.kernel.proofs.First.{Standing, stands-first, stands-next, stopped, unstopped}
use Rattle.dense.specs.Matrix.{sum_from, at}
use Rattle.eigen.specs.Rotation.{State, rotated, Symmetric}
use Rattle.eigen.specs.Private.{Slices, state_of}
use Rattle.eigen.specs.Eigen.{above_rows, stops, swept_row, swept_rows, sweep, after_sweeps, sweeps, swept}
use Rattle.eigen.proofs.Rotations.ByRows.{rotated-symmetric}

-- ---- sums above the diagonal

-- the square of entry (i, j)
abbrev pub square : List Float → ℕ → ℕ → ℕ → Float
square m n i j = mul (at m n i j) (at m n i j)

pub above_more : (m : List Float) (n i : ℕ) {s r : Float} → s ≡ above_rows m n i → r ≡ sum_from s (n - suc i) (λ d. square m n i (suc i + d)) → r ≡ above_rows m n (i + 1)
unfolding above_rows
above_more m n i p e = e ∙ rw (add-one, p)

-- ---- pairs

pub row_none : (n p : ℕ) (s : State) → s ≡ swept_row n p s (p + 1 - suc p)
unfolding swept_row
row_none n p s = ap (swept_row n p s) (let e : 0 ≡ p + 1 - suc p = omega arith in e)

pub row_more : (n p q : ℕ) (s : State) {t u : State} → p < q → t ≡ swept_row n p s (q - suc p) → u ≡ rotated n p q t → u ≡ swept_row n p s (q + 1 - suc p)
unfolding swept_row
row_more n p q s {t} {u} h e f = f ∙ rw e (ap (λ (k : ℕ). rotated n p k (swept_row n p s (q - suc p))) column) ∙ ap (swept_row n p s) count
  where
    column : q ≡ suc p + (q - suc p)
    column = omega arith

    count : suc (q - suc p) ≡ q + 1 - suc p
    count = omega arith

pub row-symmetric : (n p : ℕ) (s : State) (d : ℕ) → Symmetric n s.entries → Symmetric n (swept_row n p s d).entries
unfolding swept_row
row-symmetric n p s zero h = h
row-symmetric n p s (suc d) h = rotated-symmetric n p (suc p + d) (swept_row n p s d) (row-symmetric n p s d h)

-- ---- rows

pub rows_more : (n p : ℕ) (s : State) {t u : State} → t ≡ swept_rows n s p → u ≡ swept_row n p t (n - suc p) → u ≡ swept_rows n s (p + 1)
unfolding swept_rows
rows_more n p s e f = f ∙ rw (add-one, e)

pub rows-symmetric : (n : ℕ) (s : State) (p : ℕ) → Symmetric n s.entries → Symmetric n (swept_rows n s p).entries
unfolding swept_rows
rows-symmetric n s zero h = h
rows-symmetric n s (suc p) h = row-symmetric n p (swept_rows n s p) (n - suc p) (rows-symmetric n s p h)

-- ---- the slices that hold a state

-- after a call that keeps their lengths
module _ {n : ℕ} {m v m₁ v₁ : List Float} (held : Slices n m v) (e : length m₁ ≡ length m) (f : length v₁ ≡ length v) where
  next : {t : State} → state_of n m₁ v₁ ≡ t → Symmetric n t.entries → Slices n m₁ v₁
  next g h =
      record {
        matrix-size = e ∙ held.matrix-size;
        vectors-size = f ∙ held.vectors-size;
        symmetric = subst (λ (t : State). Symmetric n t.entries) (sym g) h;
      }

  pub slices_rotated : (p q : ℕ) → state_of n m₁ v₁ ≡ rotated n p q (state_of n m v) → Slices n m₁ v₁
  slices_rotated p q g = next g (rotated-symmetric n p q (state_of n m v) held.symmetric)

  pub slices_row : (p d : ℕ) → state_of n m₁ v₁ ≡ swept_row n p (state_of n m v) d → Slices n m₁ v₁
  slices_row p d g = next g (row-symmetric n p (state_of n m v) d held.symmetric)

  pub slices_swept : state_of n m₁ v₁ ≡ sweep n (state_of n m v) → Slices n m₁ v₁
  slices_swept g = next g (rows-symmetric n (state_of n m v) n held.symmetric)

-- what m and v hold before row p, from the state s, meets column q
pub record RowSwept (n p : ℕ) (s : State) (q : ℕ) (m v : List Float) : Type 0 where
  pub after : p < q
  pub turns : q ≤ n
  pub slices : Slices n m v
  pub swept : state_of n m v ≡ swept_row n p s (q - suc p)

-- and before row p meets its columns
pub record RowsSwept (n : ℕ) (s : State) (p : ℕ) (m v : List Float) : Type 0 where
  pub turns : p ≤ n
  pub slices : Slices n m v
  pub swept : state_of n m v ≡ swept_rows n s p

-- ---- sweeps until the test stops them

-- what the code's test says of the state that m and v hold
pub stops_by : (n : ℕ) (tol : Float) (m v : List Float) {x : Float} {b : Bool} → x ≡ above_rows m n n → lt x tol ≡ b → stops n tol (state_of n m v) ≡ b
unfolding stops
stops_by n tol m v e t = sym (ap (λ (y : Float). lt y tol) e) ∙ t

-- before sweep k from s no state has met the test, and t is the state
pub record Sweeping (n : ℕ) (tol : Float) (s : State) (k : ℕ) (t : State) : Type 0 where
  pub at : Standing (after_sweeps n s) (stops n tol) 64 k t

module _ {n : ℕ} {tol : Float} {s : State} where
  pub first_sweep : Sweeping n tol s 0 s
  unfolding after_sweeps
  first_sweep = record { at = stands-first refl }

  module _ {k : ℕ} {t : State} (b : Sweeping n tol s k t) where
    pub next_sweep : {u : State} → k < 64 → stops n tol t ≡ false → u ≡ sweep n t → Sweeping n tol s (k + 1) u
    unfolding after_sweeps
    next_sweep h e f = record { at = stands-next b.at h e (f ∙ rw (add-one, b.at.reached)) }

    pub stops_now : k < 64 → stops n tol t ≡ true → t ≡ swept n tol s
    unfolding swept sweeps
    stops_now h e = b.at.reached ∙ ap (after_sweeps n s) (sym (stopped b.at h e))

    pub stops_never : 64 ≤ k → t ≡ swept n tol s
    unfolding swept sweeps
    stops_never h = b.at.reached ∙ ap (after_sweeps n s) (sym (unstopped b.at h))
