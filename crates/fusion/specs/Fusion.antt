-- The fusion of ours and theirs over their base, of request 2: each side's information is added to the other's, and
-- what both took from the base is taken away once.
use Rattle.std.specs.Prelude.{ℕ, zero, suc, ◌*◌, Bool, true, false, cond, ◌&&◌, List, [], ◌++◌, Float}
use Rattle.kernel.specs.Answer.{Outcome, ask, and_then, through}
use Rattle.kernel.specs.Lists.{tabulate}
use Rattle.kernel.specs.Number.{add, sub}
use Rattle.dense.specs.Matrix.{nth, at, is_side, has_length, finite_entries}
use Rattle.linalg.specs.Products.{times, symmetric_part}
use Rattle.pivoting.specs.Solve.{inverse, solved}
use Rattle.repair.specs.Repair.{repair}
use Rattle.tracks.specs.Layout.{fields}
use Rattle.compare.specs.Fields.{track_state, track_covariance}
use Rattle.fusion.specs.declared.Fusion.{Fusion}
use Rattle.fusion.specs.declared.Fusion.TheVariants.{Fused, NotFused}
use Rattle.std.specs.Prelude.{Ok, Err}
use Rattle.kernel.specs.declared.question.Question.TheVariants as question

-- ---- information

-- What a track tells: Y, the inverse of its covariance, d by d, and y = Y · x, for its state x.
pub record Information : Type 0 where
  pub matrix : List Float
  pub vector : List Float

-- That of the track of dimension d with these fields, where its covariance has an inverse.
unfoldable pub information_of : ℕ → List Float → Outcome Information
unfolding inverse track_covariance times
information_of d v = through (λ y. record { matrix = y; vector = times y (track_state d v) d d }) (inverse (track_covariance d v) d)

-- (o + t) - b, entry by entry
unfoldable pub gained : ℕ → List Float → List Float → List Float → List Float
unfolding tabulate
gained n o t b = tabulate n (λ i. sub (add (nth o i) (nth t i)) (nth b i))

-- What ours and theirs tell together: (Yo + Yt) - Yb and (yo + yt) - yb.
abbrev pub joint : ℕ → Information → Information → Information → Information
joint d o t b = record { matrix = gained (d * d) o.matrix t.matrix b.matrix; vector = gained d o.vector t.vector b.vector }

-- ---- the track

pub record Estimate : Type 0 where
  pub state : List Float
  pub covariance : List Float

-- The track that tells this: x with Y · x = y, and P, the repair of the symmetric part of the inverse of Y.
unfoldable pub estimate_from : ℕ → Float → Information → Outcome Estimate
unfolding solved inverse symmetric_part repair
estimate_from d floor i =
    and_then (solved i.matrix i.vector d 1) (λ x.
    and_then (inverse i.matrix d) (λ p.
    through (λ r. record { state = x; covariance = r.rebuilt }) (repair (symmetric_part p d) floor d)))

-- Whether all entries of x and of P are finite.
unfoldable pub is_finite : ℕ → Estimate → Bool
unfolding finite_entries
is_finite d e = finite_entries e.state d && finite_entries e.covariance (d * d)

-- The first n rows of the lower triangle of a d by d matrix, one after another.
unfoldable pub lower_rows : ℕ → List Float → ℕ → List Float
unfolding tabulate
lower_rows d p zero = []
lower_rows d p (suc i) = lower_rows d p i ++ tabulate (suc i) (at p d i)

-- Its fields: the state, then the lower triangle.
unfoldable pub fields_of : ℕ → Estimate → List Float
unfolding lower_rows
fields_of d e = e.state ++ lower_rows d e.covariance d

-- ---- the fusion

-- The fields of a fused track, or none.
pub data Fusing : Type 0 where
  none : Fusing
  track : List Float → Fusing

-- An estimate that is not finite is none.
abbrev pub if_finite : ℕ → Estimate → Fusing
if_finite d e = cond (is_finite d e) (track (fields_of d e)) none

-- What follows from a step. Where it refuses, there is no fused track.
abbrev pub step : {A : Type 0} → Outcome A → (A → Fusing) → Fusing
step (Err q) rest = none
step (Ok v) rest = rest v

-- The fusion of ours and theirs over base, three tracks of dimension d by their fields.
unfoldable pub fused : ℕ → Float → List Float → List Float → List Float → Fusing
unfolding information_of gained estimate_from is_finite fields_of
fused d floor base ours theirs =
    step (information_of d ours) (λ o.
    step (information_of d theirs) (λ t.
    step (information_of d base) (λ b.
    step (estimate_from d floor (joint d o t b)) (if_finite d))))

abbrev pub is_fused : Fusing → Bool
is_fused none = false
is_fused (track v) = true

-- ---- the call

-- `fuse`: questions 1 and 2. Any floor is taken.
unfoldable pub fusing : List Float → List Float → List Float → ℕ → Float → List Float → Outcome Fusing
unfolding fused is_side has_length fields
fusing base ours theirs d floor out =
    ask question.Side (is_side d)
    (ask question.Length (has_length base (fields d) && (has_length ours (fields d) && (has_length theirs (fields d) && has_length out (fields d))))
    (Ok (fused d floor base ours theirs)))

-- The answer, and the slice afterwards: only a fused track is written.
abbrev pub after_fusing : Outcome Fusing → List Float → Outcome Fusion × List Float
after_fusing (Err q) old = (Err q, old)
after_fusing (Ok none) old = (Ok NotFused, old)
after_fusing (Ok (track v)) old = (Ok Fused, v)
