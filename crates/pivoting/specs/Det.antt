-- `mat_det` of document 01: the matrix is reduced below its diagonal, with the pivots of "Pivoting".
use Rattle.std.specs.Prelude.{ℕ, zero, suc, ◌*◌, cond, ◌&&◌, List, eqb, ltb, Float}
use Rattle.std.specs.Float.Ieee.{neg}
use Rattle.kernel.specs.Number.{sub, mul, div}
use Rattle.kernel.specs.Answer.{Outcome, ask}
use Rattle.kernel.specs.Constants.{nought, one}
use Rattle.dense.specs.Matrix.{at, row_of, matrix, is_side, has_length, max_abs}
use Rattle.kernel.specs.Lists.{tabulate}
use Rattle.pivoting.specs.Pivot.{row_norms, some_scale, best_of, swapped, swapped_norms, Stage, stage, pivot_at, pivoted}
use Rattle.std.specs.Prelude.{Ok}
use Rattle.kernel.specs.declared.question.Question.TheVariants as question

-- Entry (i, j) when the pivot of column k is in row p: rows k and p of m, of n columns, have changed places, and each row
-- below row k loses, right of column k, its own entry in column k over the pivot, times row k.
unfoldable pub forward_entry : List Float → ℕ → ℕ → ℕ → ℕ → ℕ → Float
unfolding swapped
forward_entry m n k p i j =
    cond (ltb k i && ltb k j)
    (sub (at m n (swapped k p i) j) (mul (div (at m n (swapped k p i) k) (at m n p k)) (at m n p j)))
    (at m n (swapped k p i) j)

-- column k of an n by n stage is reduced
unfoldable pub forward_step : ℕ → ℕ → Stage → Stage
unfolding best_of forward_entry matrix tabulate swapped
forward_step n k t =
    let p = (pivot_at n n k t).row in
    stage (matrix n n (forward_entry t.rows n k p)) (swapped_norms n k p t.norms)

-- the first k columns are reduced
unfoldable pub triangulated : ℕ → Stage → ℕ → Stage
unfolding forward_step
triangulated n t zero = t
triangulated n t (suc k) = forward_step n k (triangulated n t k)

-- the sign flips where row p, not k, is the pivot of column k
unfoldable pub flipped : Float → ℕ → ℕ → Float
flipped s k p = cond (eqb p k) s (neg s)

-- the sign when the pivots of the first k columns are taken, where column i is met at stage f i
unfoldable pub swap_sign : ℕ → (ℕ → Stage) → ℕ → Float
unfolding best_of flipped
swap_sign n f zero = one
swap_sign n f (suc k) = flipped (swap_sign n f k) k (pivot_at n n k (f k)).row

-- the product of these pivots
unfoldable pub pivot_product : ℕ → (ℕ → Stage) → ℕ → Float
unfolding best_of
pivot_product n f zero = one
pivot_product n f (suc k) = mul (pivot_product n f k) (at (f k).rows n (pivot_at n n k (f k)).row k)

-- their product with its sign, where each column has one, else 0.0
unfoldable pub signed_product : ℕ → (ℕ → Stage) → Float
unfolding pivoted swap_sign pivot_product
signed_product n f = cond (pivoted n n f n) (mul (swap_sign n f n) (pivot_product n f n)) nought

-- the determinant of a, n by n: 0.0 too where no norm is large enough
unfoldable pub determinant : List Float → ℕ → Float
unfolding max_abs row_of some_scale triangulated signed_product tabulate
determinant a n = cond (some_scale n (row_norms a n)) (signed_product n (triangulated n (stage a (row_norms a n)))) nought

-- `mat_det`
unfoldable pub mat_det : List Float → ℕ → Outcome Float
unfolding determinant is_side has_length
mat_det a n = ask question.Side (is_side n) (ask question.Length (has_length a (n * n)) (Ok (determinant a n)))
