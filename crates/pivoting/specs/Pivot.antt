-- Scaled partial pivoting, of document 01, "Pivoting": row norms, the choice of a pivot row, and the rows that change places.
use Rattle.std.specs.Prelude.{ℕ, zero, suc, ◌+◌, ◌*◌, ◌-◌, Bool, true, false, cond, not, ◌&&◌, ◌||◌, List, eqb, Float}
use Rattle.std.specs.Float.Ieee.{lt}
use Rattle.kernel.specs.Number.{abs, div}
use Rattle.kernel.specs.Answer.{Outcome, ask}
use Rattle.kernel.specs.Constants.{nought, rel_tol, min_scale}
use Rattle.dense.specs.Matrix.{nth, at, row_of, is_side, has_length, max_abs}
use Rattle.kernel.specs.Lists.{tabulate}
use Rattle.pivoting.specs.declared.Pivot.{Pivot}
use Rattle.std.specs.Prelude.{Ok}
use Rattle.kernel.specs.declared.question.Question.TheVariants as question

-- the norm of row i of a, n by n: its greatest |entry|, from 0.0
abbrev pub row_norm : List Float → ℕ → ℕ → Float
row_norm a n i = max_abs (row_of a n i) n

-- the norms of the rows of a, n by n
abbrev pub row_norms : List Float → ℕ → List Float
row_norms a n = tabulate n (row_norm a n)

-- `row_inf_norms`
unfoldable pub row_inf_norms : List Float → ℕ → List Float → Outcome (List Float)
unfolding max_abs row_of tabulate is_side has_length
row_inf_norms a n out = ask question.Side (is_side n) (ask question.Length (has_length a (n * n) && has_length out n) (Ok (row_norms a n)))

-- whether one of the first n norms is not below 1e-150
unfoldable pub some_scale : ℕ → List Float → Bool
some_scale zero s = false
some_scale (suc n) s = some_scale n s || not (lt (nth s n) min_scale)

-- The best row so far, and then row i, whose norm is s and whose entry in the column is x: it is passed over where its
-- norm is too small, and it is the best where its ratio is greater.
unfoldable pub consider : Pivot → Float → Float → ℕ → Pivot
unfolding abs
consider best s x i = cond (lt s min_scale) best (cond (lt best.ratio (div (abs x) s)) (record { ratio = div (abs x) s; row = i }) best)

-- the best of the rows k, k + 1, .. k + d - 1 of m, of w columns, as the pivot of column k: the ratio is 0.0 and the row k at first
unfoldable pub best_of : List Float → List Float → ℕ → ℕ → ℕ → Pivot
unfolding consider
best_of m s w k zero = record { ratio = nought; row = k }
best_of m s w k (suc d) = consider (best_of m s w k d) (nth s (k + d)) (at m w (k + d) k) (k + d)

-- the pivot of column k of m, of n rows and w columns, with norms s
abbrev pub pivot : List Float → List Float → ℕ → ℕ → ℕ → Pivot
pivot m s n w k = best_of m s w k (n - k)

-- question 6 in column k: the best ratio is not below 1e-14
unfoldable pub taken : Pivot → Bool
taken p = not (lt p.ratio rel_tol)

-- which row stands in place i when rows k and p change places
unfoldable pub swapped : ℕ → ℕ → ℕ → ℕ
swapped k p i = cond (eqb i k) p (cond (eqb i p) k i)

-- the norms, when rows k and p have changed places
abbrev pub swapped_norms : ℕ → ℕ → ℕ → List Float → List Float
swapped_norms n k p s = tabulate n (λ i. nth s (swapped k p i))

-- an augmented matrix with the norms of its rows
pub record Stage : Type 0 where
  pub rows : List Float
  pub norms : List Float

abbrev pub stage : List Float → List Float → Stage
stage m s = record { rows = m; norms = s }

-- the pivot of column k of a stage of n rows and w columns
abbrev pub pivot_at : ℕ → ℕ → ℕ → Stage → Pivot
pivot_at n w k t = pivot t.rows t.norms n w k

-- question 6: a pivot is taken in each of the first k columns, where column i is met at stage f i
unfoldable pub pivoted : ℕ → ℕ → (ℕ → Stage) → ℕ → Bool
unfolding taken best_of
pivoted n w f zero = true
pivoted n w f (suc k) = pivoted n w f k && taken (pivot_at n w k (f k))
