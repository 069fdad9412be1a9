-- The Cholesky factor of linalg/generic.rs. Its entries are made row by row, each from those before it; p is the list of the entries made so far.
use Rattle.std.specs.Prelude.{ℕ, zero, suc, ◌-◌, ◌*◌, Bool, true, ◌&&◌, List, [], ◌∷◌, ◌++◌, replicate, Float}
use Rattle.std.specs.Float.Ieee.{lt}
use Rattle.kernel.specs.Number.{sub, mul, div, finite}
use Rattle.kernel.specs.Sqrt.{sqrt}
use Rattle.kernel.specs.Answer.{Outcome, ask}
use Rattle.kernel.specs.Constants.{nought}
use Rattle.dense.specs.Matrix.{total, sum_from, at, is_side, has_length}
use Rattle.std.specs.Prelude.{Ok}
use Rattle.kernel.specs.declared.question.Question.TheVariants as question

-- question 7, of one pivot: above 0 and finite; a NaN is not
unfoldable pub is_pivot : Float → Bool
is_pivot d = lt nought d && finite d

-- the product of the parts of rows i and j of p before column j
abbrev pub inner : List Float → ℕ → ℕ → ℕ → Float
inner p n i j = total j (λ k. mul (at p n i k) (at p n j k))

-- entry (i, j) left of the diagonal
abbrev pub below_entry : List Float → ℕ → List Float → ℕ → ℕ → Float
below_entry a n p i j = div (sub (at a n i j) (inner p n i j)) (at p n j j)

-- p, then the first j entries of row i
unfoldable pub with_left : List Float → ℕ → List Float → ℕ → ℕ → List Float
unfolding sum_from
with_left a n p i zero = p
with_left a n p i (suc j) = let q = with_left a n p i j in q ++ (below_entry a n q i j ∷ [])

-- the pivot of row i, whose entries left of the diagonal end p
abbrev pub reached_pivot : List Float → ℕ → List Float → ℕ → Float
reached_pivot a n p i = sub (at a n i i) (inner p n i i)

-- the first i rows of the factor: in each, the entries left of the diagonal, the root of the pivot, and +0.0 to the right
unfoldable pub factor : List Float → ℕ → ℕ → List Float
unfolding with_left sqrt
factor a n zero = []
factor a n (suc i) =
    let p = with_left a n (factor a n i) i i in
    p ++ (sqrt (reached_pivot a n p i) ∷ replicate (n - suc i) nought)

-- the pivot of row i, under the rows of the factor before it
abbrev pub row_pivot : List Float → ℕ → ℕ → Float
row_pivot a n i = reached_pivot a n (with_left a n (factor a n i) i i) i

-- whether the first i pivots are met
unfoldable pub definite : List Float → ℕ → ℕ → Bool
unfolding is_pivot factor
definite a n zero = true
definite a n (suc i) = definite a n i && is_pivot (row_pivot a n i)

-- `mat_cholesky`: the lower factor of a, n by n, whose entries right of the diagonal are not read
unfoldable pub mat_cholesky : List Float → ℕ → List Float → Outcome (List Float)
unfolding definite factor is_side has_length
mat_cholesky a n out =
    ask question.Side (is_side n)
    (ask question.Length (has_length a (n * n) && has_length out (n * n))
    (ask question.CholeskyPivot (definite a n n)
    (Ok (factor a n n))))
