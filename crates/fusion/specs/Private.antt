-- The words of the private functions' contracts, and of those for the project's own crates: no definition of a call
-- needs them.
use Rattle.std.specs.Prelude.{ℕ, ◌*◌, Bool, true, false, ◌&&◌, List, ◌≡◌, Float, length}
use Rattle.kernel.specs.Answer.{Outcome, and_then, through}
use Rattle.kernel.specs.Lists.{tabulate}
use Rattle.kernel.specs.Number.{add, sub}
use Rattle.dense.specs.Matrix.{nth, is_side, has_length}
use Rattle.tracks.specs.Layout.{fields}
use Rattle.fusion.specs.Fusion.{Information, information_of, Estimate, Fusing, none, track}
use Rattle.std.specs.Prelude.{Ok}

-- ---- slices

-- That a slice holds the fields of a track of dimension d.
pub record HasFields (d : ℕ) (v : List Float) : Type 0 where
  pub sided : is_side d ≡ true
  pub long : length v ≡ fields d

-- That slices hold three tracks of dimension d, and that there is room for a fourth.
pub record ToFuse (d : ℕ) (base ours theirs out : List Float) : Type 0 where
  pub of_base : HasFields d base
  pub of_ours : HasFields d ours
  pub of_theirs : HasFields d theirs
  pub room : HasFields d out

-- Whether four slices have f entries each.
abbrev pub are_long : List Float → List Float → List Float → List Float → ℕ → Bool
are_long a b c e f = has_length a f && (has_length b f && (has_length c f && has_length e f))

-- That a slice is a d by d matrix, and another a vector of d entries.
pub record Sized (d : ℕ) (m y : List Float) : Type 0 where
  pub matrix : length m ≡ d * d
  pub vector : length y ≡ d

-- That slices are room for a covariance, for what one track tells, and for what is told together.
pub record Rooms (d : ℕ) (p n z m y : List Float) : Type 0 where
  pub covariance : length p ≡ d * d
  pub one : Sized d n z
  pub together : Sized d m y

-- ---- answers

-- That r tells whether there is an answer, or the question that refuses it, and that v is the answer where there is
-- one.
pub record Gives {A : Type 0} (o : Outcome A) (r : Outcome Unit) (v : A) : Type 0 where
  pub answers : r ≡ through (λ a. tt) o
  pub one : r ≡ Ok tt → o ≡ Ok v

-- ---- information

abbrev pub information : List Float → List Float → Information
information m y = record { matrix = m; vector = y }

-- x + y and x - y, entry by entry
abbrev pub sums : ℕ → List Float → List Float → List Float
sums n x y = tabulate n (λ i. add (nth x i) (nth y i))

abbrev pub differences : ℕ → List Float → List Float → List Float
differences n x y = tabulate n (λ i. sub (nth x i) (nth y i))

abbrev pub added : ℕ → Information → Information → Information
added d i j = information (sums (d * d) i.matrix j.matrix) (sums d i.vector j.vector)

abbrev pub lessened : ℕ → Information → Information → Information
lessened d i j = information (differences (d * d) i.matrix j.matrix) (differences d i.vector j.vector)

-- What two tracks tell, added.
abbrev pub both_of : ℕ → List Float → List Float → Outcome Information
both_of d ours theirs = and_then (information_of d ours) (λ o. through (added d o) (information_of d theirs))

-- What is left of that without what a third tells.
abbrev pub left_without : ℕ → Information → List Float → Outcome Information
left_without d i base = through (lessened d i) (information_of d base)

-- ---- the track

abbrev pub estimate : List Float → List Float → Estimate
estimate x p = record { state = x; covariance = p }

-- Whether a track is written, and the slice afterwards.
abbrev pub left_by : Fusing → List Float → Bool × List Float
left_by none old = (false, old)
left_by (track v) old = (true, v)
