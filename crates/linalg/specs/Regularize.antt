-- The damping of linalg/regularize.rs.
use Rattle.std.specs.Prelude.{ℕ, ◌*◌, ◌&&◌, cond, List, eqb, Float}
use Rattle.kernel.specs.Number.{add}
use Rattle.kernel.specs.Answer.{Outcome, ask}
use Rattle.dense.specs.Matrix.{at, matrix, is_side, has_length}
use Rattle.kernel.specs.Lists.{tabulate}
use Rattle.std.specs.Prelude.{Ok}
use Rattle.kernel.specs.declared.question.Question.TheVariants as question

-- entry (i, j) of a with alpha added on the diagonal
abbrev pub damped_entry : List Float → ℕ → Float → ℕ → ℕ → Float
damped_entry a n alpha i j = cond (eqb i j) (add (at a n i j) alpha) (at a n i j)

-- a, n by n, plus alpha times the identity
unfoldable pub damped : List Float → Float → ℕ → List Float
unfolding matrix tabulate
damped a alpha n = matrix n n (damped_entry a n alpha)

-- `tikhonov`
unfoldable pub tikhonov : List Float → Float → ℕ → List Float → Outcome (List Float)
unfolding damped is_side has_length
tikhonov a alpha n out =
    ask question.Side (is_side n)
    (ask question.Length (has_length a (n * n) && has_length out (n * n))
    (Ok (damped a alpha n)))
