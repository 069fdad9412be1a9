-- Which pivots are taken depends on the first n columns alone, and a column beyond them on itself and those (`same-pivot`, `same-reduced`: of
-- two stages that are `Alike`). So column j of the solution against b is the solution against column j of b (`solved-column`).
use Prim.Native.Nat.{ℕ, zero, suc, ◌+◌, ◌*◌, ◌-◌, ◌<◌, ◌≤◌}
use native.Mathlib.Omega.{arith}
use native.Mathlib.Decide.{ℕ_discrete}
use mathlib.Core.Bool.{Bool, true, false}
use mathlib.Core.List.{List}
use mathlib.Core.Path.{◌≡◌, refl, sym, ap, ◌∙◌}
use borrow.Author.Tests.{eq-eqb, ne_eqb, lt-ltb, le-ltb}
use lib.Ieee.{Float}
use Rattle.kernel.specs.Answer.{ask, through}
use Rattle.dense.specs.Matrix.{nth, at, matrix, column_of}
use Rattle.dense.proofs.Laws.{length-matrix, nth-tabulate, by_entries, at-matrix}
use Rattle.pivoting.specs.Pivot.{row_norms, some_scale, best_of, swapped, swapped_norms, Stage, pivot_at, pivoted}
use Rattle.pivoting.specs.Solve.{step_entry, column, reduced, augmented_entry, augmented, start, solution, solved}
use Rattle.pivoting.proofs.Pivots.{pivot-row}
use Rattle.std.specs.Prelude.{Ok}
use Rattle.kernel.specs.declared.question.Question.TheVariants as question

-- Two stages of n rows, with w and v columns, have equal norms and equal first n columns, and column c of the one is column d of the other.
pub record Alike (n w v c d : ℕ) (t u : Stage) : Type 0 where
  pub norms : t.norms ≡ u.norms
  pub front : (i j : ℕ) → i < n → j < n → at t.rows w i j ≡ at u.rows v i j
  pub beyond : (i : ℕ) → i < n → at t.rows w i c ≡ at u.rows v i d

swapped-row : (n k p i : ℕ) → k < n → p < n → i < n → swapped k p i < n
unfolding swapped
swapped-row n k p i h l q = go (ℕ_discrete i k) (ℕ_discrete i p)
  where
    go : Dec (i ≡ k) → Dec (i ≡ p) → swapped k p i < n
    go (yes s) z = rw (eq-eqb i k s) l
    go (no s) (yes z) = rw (ne_eqb i k s, eq-eqb i p z) h
    go (no s) (no z) = rw (ne_eqb i k s, ne_eqb i p z) q

module _ (n w v c d : ℕ) (nw : n ≤ w) (nv : n ≤ v) (cw : c < w) (dv : d < v) where
  same_best : (t u : Stage) → Alike n w v c d t u → (k e : ℕ) → k < n → k + e ≤ n → best_of t.rows t.norms w k e ≡ best_of u.rows u.norms v k e
  unfolding best_of
  same_best t u a k zero h l = refl
  same_best t u a k (suc e) h l = rw (same_best t u a k e h (omega arith), a.front (k + e) k (omega arith) h, a.norms)

  pub same-pivot : (t u : Stage) → Alike n w v c d t u → (k : ℕ) → k < n → pivot_at n w k t ≡ pivot_at n v k u
  same-pivot t u a k h = same_best t u a k (n - k) h (omega arith)

  -- one step, in a column that the two have in common
  same_step : (t u : Stage) → Alike n w v c d t u → (k p : ℕ) → k < n → p < n → (x y : ℕ) → x < w → y < v → ((i : ℕ) → i < n → at t.rows w i x ≡ at u.rows v i y)
      → (i : ℕ) → i < n → at (matrix n w (step_entry t.rows w k p)) w i x ≡ at (matrix n v (step_entry u.rows v k p)) v i y
  unfolding step_entry
  same_step t u a k p h l x y xw yv e i b =
      at-matrix n w (step_entry t.rows w k p) i x b xw
      ∙ (rw (e p l, a.front p k l h, e (swapped k p i) r, a.front (swapped k p i) k r h))
      ∙ sym (at-matrix n v (step_entry u.rows v k p) i y b yv)
    where
      r : swapped k p i < n
      r = swapped-row n k p i h l b

  same-column : (t u : Stage) → Alike n w v c d t u → (k : ℕ) → k < n → Alike n w v c d (column n w k t) (column n v k u)
  unfolding column
  same-column t u a k h =
      let p = (pivot_at n v k u).row in
      let l = pivot-row u.rows u.norms n v k h refl in
      rw (same-pivot t u a k h)
      (record {
        norms = ap (λ (s : List Float). swapped_norms n k p s) a.norms;
        front = λ i j b q. same_step t u a k p h l j j (omega arith) (omega arith) (λ z o. a.front z j o q) i b;
        beyond = λ i b. same_step t u a k p h l c d cw dv a.beyond i b;
      })

  -- the two stay alike, column after column
  pub same-reduced : (t u : Stage) → Alike n w v c d t u → (k : ℕ) → k ≤ n → Alike n w v c d (reduced n w t k) (reduced n v u k)
  unfolding reduced
  same-reduced t u a zero h = a
  same-reduced t u a (suc k) h = same-column (reduced n w t k) (reduced n v u k) (same-reduced t u a k (omega arith)) k h

  -- and question 6 has one answer for both
  pub same-pivoted : (t u : Stage) → Alike n w v c d t u → (k : ℕ) → k ≤ n → pivoted n w (reduced n w t) k ≡ pivoted n v (reduced n v u) k
  unfolding pivoted
  same-pivoted t u a zero h = refl
  same-pivoted t u a (suc k) h = rw (same-pivoted t u a k (omega arith), same-pivot (reduced n w t k) (reduced n v u k) (same-reduced t u a k (omega arith)) k h)

-- [a | b] and [a | column j of b]
start_alike : (a b : List Float) (n r j : ℕ) → j < r → Alike n (n + r) (n + 1) (n + j) n (start a b n r) (start a (column_of b n r j) n 1)
unfolding augmented
start_alike a b n r j h = record { norms = refl; front = front; beyond = beyond }
  where
    front : (i x : ℕ) → i < n → x < n → at (augmented a b n r) (n + r) i x ≡ at (augmented a (column_of b n r j) n 1) (n + 1) i x
    front i x p q =
        at-matrix n (n + r) (augmented_entry a b n r) i x p (omega arith)
        ∙ (rw (lt-ltb x n q))
        ∙ sym (at-matrix n (n + 1) (augmented_entry a (column_of b n r j) n 1) i x p (omega arith))

    place : (i : ℕ) → i * 1 + (n - n) ≡ i
    place i = omega arith

    same : n + j - n ≡ j
    same = omega arith

    beyond : (i : ℕ) → i < n → at (augmented a b n r) (n + r) i (n + j) ≡ at (augmented a (column_of b n r j) n 1) (n + 1) i n
    beyond i p =
        at-matrix n (n + r) (augmented_entry a b n r) i (n + j) p (omega arith)
        ∙ (rw (le-ltb (n + j) n (omega arith), le-ltb n n (omega arith), same, place i) (sym (nth-tabulate n (λ x. at b r x j) i p)))
        ∙ sym (at-matrix n (n + 1) (augmented_entry a (column_of b n r j) n 1) i n p (omega arith))

solution-column : (a b : List Float) (n r j : ℕ) → j < r → column_of (solution a b n r) n r j ≡ solution a (column_of b n r j) n 1
unfolding solution
solution-column a b n r j h = sym (by_entries n _ _ (length-matrix n 1 one-column ∙ omega arith) entry)
  where
    t : Stage
    t = reduced n (n + r) (start a b n r) n

    u : Stage
    u = reduced n (n + 1) (start a (column_of b n r j) n 1) n

    one-column : ℕ → ℕ → Float
    one-column i x = at u.rows (n + 1) i (n + x)

    columns : ℕ → ℕ → Float
    columns i x = at t.rows (n + r) i (n + x)

    alike : Alike n (n + r) (n + 1) (n + j) n t u
    alike = same-reduced n (n + r) (n + 1) (n + j) n (omega arith) (omega arith) (omega arith) (omega arith) _ _ (start_alike a b n r j h) n (omega arith)

    place : (q : ℕ) → q ≡ q * 1 + 0
    place q = omega arith

    first : n + 0 ≡ n
    first = omega arith

    entry : (q : ℕ) → q < n → nth (matrix n 1 one-column) q ≡ at (matrix n r columns) r q j
    entry q k =
        ap (λ (z : ℕ). nth (matrix n 1 one-column) z) (place q)
        ∙ at-matrix n 1 one-column q 0 k (omega arith)
        ∙ ap (λ (z : ℕ). at u.rows (n + 1) q z) first
        ∙ sym (alike.beyond q k)
        ∙ sym (at-matrix n r columns q j k h)

-- Column j of the solution against b, n by r, is the solution against column j of b; and both are refused alike.
pub solved-column : (a b : List Float) (n r j : ℕ) → j < r → through (λ v. column_of v n r j) (solved a b n r) ≡ solved a (column_of b n r j) n 1
unfolding solved solution
solved-column a b n r j h = rw pivots (go (some_scale n (row_norms a n)) (pivoted n (n + 1) (reduced n (n + 1) (start a (column_of b n r j) n 1)) n))
  where
    pivots : pivoted n (n + r) (reduced n (n + r) (start a b n r)) n ≡ pivoted n (n + 1) (reduced n (n + 1) (start a (column_of b n r j) n 1)) n
    pivots = same-pivoted n (n + r) (n + 1) (n + j) n (omega arith) (omega arith) (omega arith) (omega arith) _ _ (start_alike a b n r j h) n (omega arith)

    go : (x p : Bool) → through (λ v. column_of v n r j) (ask question.RowNorm x (ask question.PivotRatio p (Ok (solution a b n r))))
        ≡ ask question.RowNorm x (ask question.PivotRatio p (Ok (solution a (column_of b n r j) n 1)))
    go true true = ap Ok (solution-column a b n r j h)
    go true false = refl
    go false p = refl
