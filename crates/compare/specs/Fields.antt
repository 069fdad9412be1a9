-- The state and the covariance of a track, from its fields in the order of the list record.
use Rattle.std.specs.Prelude.{ℕ, ◌+◌, ◌*◌, ◌/◌, cond, ◌&&◌, List, leb, length, take, Float}
use Rattle.kernel.specs.Answer.{Outcome, ask}
use Rattle.tracks.specs.Layout.{fields}
use Rattle.dense.specs.Matrix.{nth, matrix, is_side, has_length}
use Rattle.std.specs.Prelude.{Ok}
use Rattle.kernel.specs.declared.question.Question.TheVariants as question

-- the d values of the state
abbrev pub track_state : ℕ → List Float → List Float
track_state d v = take d v

-- The place of column j of row i of the lower triangle, which stands row by row after the state.
abbrev pub lower_field : ℕ → ℕ → ℕ → ℕ
lower_field d i j = d + i * (i + 1) / 2 + j

-- Entry (i, j) of the covariance: the upper triangle mirrors the lower.
abbrev pub covariance_entry : ℕ → List Float → ℕ → ℕ → Float
covariance_entry d v i j = nth v (cond (leb j i) (lower_field d i j) (lower_field d j i))

-- The covariance as a whole matrix.
unfoldable pub track_covariance : ℕ → List Float → List Float
unfolding matrix
track_covariance d v = matrix d d (covariance_entry d v)

-- `whole_covariance`: of values read from a list there may be more than the track's fields.
unfoldable pub whole_covariance : List Float → ℕ → List Float → Outcome (List Float)
unfolding track_covariance is_side has_length fields
whole_covariance v d out =
    ask question.Side (is_side d)
    (ask question.Length (leb (fields d) (length v) && has_length out (d * d))
    (Ok (track_covariance d v)))
