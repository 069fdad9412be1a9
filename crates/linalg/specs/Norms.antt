-- The norms of linalg/generic.rs.
use Rattle.std.specs.Prelude.{ℕ, ◌*◌, ◌&&◌, List, Float}
use Rattle.kernel.specs.Sqrt.{sqrt}
use Rattle.kernel.specs.Answer.{Outcome, ask}
use Rattle.dense.specs.Matrix.{sum_from, norm, is_side, has_length}
use Rattle.std.specs.Prelude.{Ok}
use Rattle.kernel.specs.declared.question.Question.TheVariants as question

-- `vec_norm`
unfoldable pub vec_norm : List Float → ℕ → Outcome Float
unfolding sqrt sum_from is_side has_length
vec_norm x n = ask question.Side (is_side n) (ask question.Length (has_length x n) (Ok (norm x n)))

-- `mat_frobenius`: the norm of all entries of a, m by n, row by row
unfoldable pub mat_frobenius : List Float → ℕ → ℕ → Outcome Float
unfolding sqrt sum_from is_side has_length
mat_frobenius a m n = ask question.Side (is_side m && is_side n) (ask question.Length (has_length a (m * n)) (Ok (norm a (m * n))))
