-- The calls of linalg/generic.rs that give one sum: traces, the quadratic form and the distance under a given inverse.
use Rattle.std.specs.Prelude.{ℕ, ◌*◌, ◌&&◌, List, Float}
use Rattle.kernel.specs.Number.{sub, mul}
use Rattle.kernel.specs.Answer.{Outcome, ask}
use Rattle.kernel.specs.Constants.{nought}
use Rattle.dense.specs.Matrix.{total, sum_from, sum_rows_from, sum_planes_from, nth, at, is_side, has_length}
use Rattle.kernel.specs.Lists.{tabulate}
use Rattle.linalg.specs.Products.{product}
use Rattle.std.specs.Prelude.{Ok}
use Rattle.kernel.specs.declared.question.Question.TheVariants as question

-- `mat_trace`: the sum of the diagonal of a, n by n
unfoldable pub mat_trace : List Float → ℕ → Outcome Float
unfolding sum_from is_side has_length
mat_trace a n = ask question.Side (is_side n) (ask question.Length (has_length a (n * n)) (Ok (total n (λ i. at a n i i))))

-- `mat_trace_product`: the trace of a b, both n by n, as one sum of a_ij b_ji
unfoldable pub mat_trace_product : List Float → List Float → ℕ → Outcome Float
unfolding sum_rows_from is_side has_length
mat_trace_product a b n =
    ask question.Side (is_side n)
    (ask question.Length (has_length a (n * n) && has_length b (n * n))
    (Ok (sum_rows_from nought n n (λ i j. mul (at a n i j) (at b n j i)))))

-- the trace of the cube of m, n by n, as one sum of (m_ij m_jk) m_ki
unfoldable pub trace_cube : List Float → ℕ → Float
unfolding sum_planes_from
trace_cube m n = sum_planes_from nought n n n (λ i j k. mul (mul (at m n i j) (at m n j k)) (at m n k i))

-- `mat_trace_cube`: the trace of the cube of a b, both n by n
unfoldable pub mat_trace_cube : List Float → List Float → ℕ → Outcome Float
unfolding trace_cube product is_side has_length
mat_trace_cube a b n =
    ask question.Side (is_side n)
    (ask question.Length (has_length a (n * n) && has_length b (n * n))
    (Ok (trace_cube (product a b n n n) n)))

-- xᵀ a x, for a n by n, as one sum of (x_i a_ij) x_j
unfoldable pub quadratic_form : List Float → List Float → ℕ → Float
unfolding sum_rows_from
quadratic_form x a n = sum_rows_from nought n n (λ i j. mul (mul (nth x i) (at a n i j)) (nth x j))

-- `mat_quadratic_form`
unfoldable pub mat_quadratic_form : List Float → List Float → ℕ → Outcome Float
unfolding quadratic_form is_side has_length
mat_quadratic_form x a n = ask question.Side (is_side n) (ask question.Length (has_length x n && has_length a (n * n)) (Ok (quadratic_form x a n)))

-- x - mu, of n entries
abbrev pub difference : List Float → List Float → ℕ → List Float
difference x mu n = tabulate n (λ i. sub (nth x i) (nth mu i))

-- `mahalanobis_distance_squared_with_inv`: the quadratic form of x - mu under the inverse that is given
unfoldable pub distance_with_inv : List Float → List Float → List Float → ℕ → Outcome Float
unfolding quadratic_form tabulate is_side has_length
distance_with_inv x mu inv n =
    ask question.Side (is_side n)
    (ask question.Length (has_length x n && (has_length mu n && has_length inv (n * n)))
    (Ok (quadratic_form (difference x mu n) inv n)))
