-- The calls of linalg/generic.rs that write a matrix or a vector by a rule for each entry: what they write, as a value, and the calls with their questions.
use Rattle.std.specs.Prelude.{ℕ, ◌*◌, min, max, ◌&&◌, List, Float}
use Rattle.kernel.specs.Number.{add, mul}
use Rattle.kernel.specs.Answer.{Outcome, ask}
use Rattle.dense.specs.Matrix.{total, sum_from, nth, at, matrix, is_side, has_length}
use Rattle.kernel.specs.Lists.{tabulate}
use Rattle.kernel.specs.Constants.{half}
use Rattle.std.specs.Prelude.{Ok}
use Rattle.kernel.specs.declared.question.Question.TheVariants as question

-- entry (i, j) of a b, where a has k columns and b has n
abbrev pub product_entry : List Float → List Float → ℕ → ℕ → ℕ → ℕ → Float
product_entry a b k n i j = total k (λ l. mul (at a k i l) (at b n l j))

-- the m by n product of a, m by k, and b, k by n
unfoldable pub product : List Float → List Float → ℕ → ℕ → ℕ → List Float
unfolding matrix sum_from tabulate
product a b m k n = matrix m n (product_entry a b k n)

-- `mat_mul`
unfoldable pub mat_mul : List Float → List Float → ℕ → ℕ → ℕ → List Float → Outcome (List Float)
unfolding product is_side has_length
mat_mul a b m k n out =
    ask question.Side (is_side m && (is_side k && is_side n))
    (ask question.Length (has_length a (m * k) && (has_length b (k * n) && has_length out (m * n)))
    (Ok (product a b m k n)))

-- entry (i, j) of the transpose of a, which has n columns
abbrev pub transpose_entry : List Float → ℕ → ℕ → ℕ → Float
transpose_entry a n i j = at a n j i

-- the n by m transpose of a, m by n
unfoldable pub transposed : List Float → ℕ → ℕ → List Float
unfolding matrix tabulate
transposed a m n = matrix n m (transpose_entry a n)

-- `mat_transpose`
unfoldable pub mat_transpose : List Float → ℕ → ℕ → List Float → Outcome (List Float)
unfolding transposed is_side has_length
mat_transpose a m n out =
    ask question.Side (is_side m && is_side n)
    (ask question.Length (has_length a (m * n) && has_length out (n * m))
    (Ok (transposed a m n)))

-- entry (i, j) of the product of the transpose of a, m by n, and a: those on and below the diagonal are summed, and mirrored
abbrev pub ata_entry : List Float → ℕ → ℕ → ℕ → ℕ → Float
ata_entry a m n i j = total m (λ k. mul (at a n k (max i j)) (at a n k (min i j)))

-- the n by n product of the transpose of a, m by n, and a: its eigenvalues are the squares of the singular values of a
unfoldable pub gram : List Float → ℕ → ℕ → List Float
unfolding matrix sum_from tabulate
gram a m n = matrix n n (ata_entry a m n)

-- `mat_ata`
unfoldable pub mat_ata : List Float → ℕ → ℕ → List Float → Outcome (List Float)
unfolding gram is_side has_length
mat_ata a m n out =
    ask question.Side (is_side m && is_side n)
    (ask question.Length (has_length a (m * n) && has_length out (n * n))
    (Ok (gram a m n)))

-- the mean of entries (i, j) and (j, i): that above the diagonal comes first
abbrev pub symmetric_entry : List Float → ℕ → ℕ → ℕ → Float
symmetric_entry a n i j = mul (add (at a n (min i j) (max i j)) (at a n (max i j) (min i j))) half

-- the symmetric part of a, n by n: half the sum of a and its transpose
unfoldable pub symmetric_part : List Float → ℕ → List Float
unfolding matrix tabulate
symmetric_part a n = matrix n n (symmetric_entry a n)

-- `mat_symmetrize`
unfoldable pub mat_symmetrize : List Float → ℕ → List Float → Outcome (List Float)
unfolding symmetric_part is_side has_length
mat_symmetrize a n out =
    ask question.Side (is_side n)
    (ask question.Length (has_length a (n * n) && has_length out (n * n))
    (Ok (symmetric_part a n)))

-- entry i of the product of a, of n columns, and the vector x
abbrev pub vector_entry : List Float → List Float → ℕ → ℕ → Float
vector_entry a x n i = total n (λ j. mul (at a n i j) (nth x j))

-- the product of a, m by n, and the vector x
unfoldable pub times : List Float → List Float → ℕ → ℕ → List Float
unfolding sum_from tabulate
times a x m n = tabulate m (vector_entry a x n)

-- `mat_vec_mul`, of a square matrix
unfoldable pub mat_vec_mul : List Float → List Float → ℕ → List Float → Outcome (List Float)
unfolding times is_side has_length
mat_vec_mul a x n out =
    ask question.Side (is_side n)
    (ask question.Length (has_length a (n * n) && (has_length x n && has_length out n))
    (Ok (times a x n n)))
