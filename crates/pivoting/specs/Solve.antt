-- Gauss–Jordan elimination by scaled pivots, of document 01, "Pivoting": `mat_solve`, `mat_inv` and the distance over the inverse.
use Rattle.std.specs.Prelude.{ℕ, zero, suc, ◌+◌, ◌*◌, ◌-◌, cond, ◌&&◌, List, eqb, ltb, Float}
use Rattle.kernel.specs.Number.{sub, mul, div}
use Rattle.kernel.specs.Answer.{Outcome, ask, through}
use Rattle.dense.specs.Matrix.{at, row_of, matrix, identity, is_side, has_length, max_abs}
use Rattle.kernel.specs.Lists.{tabulate}
use Rattle.linalg.specs.Sums.{difference, quadratic_form}
use Rattle.pivoting.specs.Pivot.{row_norms, some_scale, best_of, swapped, swapped_norms, Stage, stage, pivot_at, pivoted}
use Rattle.std.specs.Prelude.{Ok}
use Rattle.kernel.specs.declared.question.Question.TheVariants as question

-- entry j of row p of m, of w columns, divided by its entry in column k
abbrev pub divided_entry : List Float → ℕ → ℕ → ℕ → ℕ → Float
divided_entry m w p k j = div (at m w p j) (at m w p k)

-- entry j of row i when column k is cleared: x where i is k, and otherwise y less its own entry in column k times x
abbrev pub cleared_entry : (ℕ → Float) → (ℕ → Float) → ℕ → ℕ → ℕ → Float
cleared_entry x y k i j = cond (eqb i k) (x j) (sub (y j) (mul (y k) (x j)))

-- Entry (i, j) when the pivot of column k is in row p: rows k and p of m, of w columns, have changed places, row k is
-- divided by its entry in column k, and every other row loses its own entry in column k times that.
unfoldable pub step_entry : List Float → ℕ → ℕ → ℕ → ℕ → ℕ → Float
unfolding swapped
step_entry m w k p i j = cleared_entry (divided_entry m w p k) (at m w (swapped k p i)) k i j

-- column k of n rows and w columns is reduced
unfoldable pub column : ℕ → ℕ → ℕ → Stage → Stage
unfolding best_of step_entry matrix tabulate swapped
column n w k t =
    let p = (pivot_at n w k t).row in
    stage (matrix n w (step_entry t.rows w k p)) (swapped_norms n k p t.norms)

-- the first k columns are reduced
unfoldable pub reduced : ℕ → ℕ → Stage → ℕ → Stage
unfolding column
reduced n w t zero = t
reduced n w t (suc k) = column n w k (reduced n w t k)

-- entry (i, j) of [a | b], for a n by n and b n by r
abbrev pub augmented_entry : List Float → List Float → ℕ → ℕ → ℕ → ℕ → Float
augmented_entry a b n r i j = cond (ltb j n) (at a n i j) (at b r i (j - n))

-- [a | b]
unfoldable pub augmented : List Float → List Float → ℕ → ℕ → List Float
unfolding matrix
augmented a b n r = matrix n (n + r) (augmented_entry a b n r)

-- [a | b] with the norms of a
abbrev pub start : List Float → List Float → ℕ → ℕ → Stage
start a b n r = stage (augmented a b n r) (row_norms a n)

-- the right part of a stage of n rows and n + r columns, n by r
abbrev pub right_of : ℕ → ℕ → Stage → List Float
right_of n r t = matrix n r (λ i j. at t.rows (n + r) i (n + j))

-- the right part of [a | b] when every column of a is reduced: the n by r matrix x with a x = b
unfoldable pub solution : List Float → List Float → ℕ → ℕ → List Float
unfolding augmented reduced matrix max_abs row_of
solution a b n r = right_of n r (reduced n (n + r) (start a b n r) n)

-- questions 5 and 6 of a stage of n rows and n + r columns, and then its right part when the first n columns are reduced
abbrev pub solved_from : ℕ → ℕ → Stage → Outcome (List Float)
solved_from n r t =
    ask question.RowNorm (some_scale n t.norms)
    (ask question.PivotRatio (pivoted n (n + r) (reduced n (n + r) t) n)
    (Ok (right_of n r (reduced n (n + r) t n))))

-- questions 5 and 6, and then the solution
unfoldable pub solved : List Float → List Float → ℕ → ℕ → Outcome (List Float)
unfolding some_scale pivoted augmented reduced matrix max_abs row_of
solved a b n r = solved_from n r (start a b n r)

-- `mat_solve`: the vector x with a x = b, for a n by n
unfoldable pub mat_solve : List Float → List Float → ℕ → List Float → Outcome (List Float)
unfolding solved is_side has_length
mat_solve a b n out =
    ask question.Side (is_side n)
    (ask question.Length (has_length a (n * n) && (has_length b n && has_length out n))
    (solved a b n 1))

-- questions 5 and 6, and then the inverse of a, n by n: the solution against the identity
unfoldable pub inverse : List Float → ℕ → Outcome (List Float)
unfolding solved
inverse a n = solved a (identity n) n n

-- `mat_inv`
unfoldable pub mat_inv : List Float → ℕ → List Float → Outcome (List Float)
unfolding inverse is_side has_length
mat_inv a n out =
    ask question.Side (is_side n)
    (ask question.Length (has_length a (n * n) && has_length out (n * n))
    (inverse a n))

-- the quadratic form of x - mu under the inverse of cov, n by n, where it has one
unfoldable pub distance : List Float → List Float → List Float → ℕ → Outcome Float
unfolding inverse quadratic_form
distance x mu cov n = through (λ inv. quadratic_form (difference x mu n) inv n) (inverse cov n)

-- `mahalanobis_distance_squared`
unfoldable pub mahalanobis : List Float → List Float → List Float → ℕ → Outcome Float
unfolding distance is_side has_length
mahalanobis x mu cov n =
    ask question.Side (is_side n)
    (ask question.Length (has_length x n && (has_length mu n && has_length cov (n * n)))
    (distance x mu cov n))
