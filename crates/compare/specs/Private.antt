-- What the functions for our own crates, and the private ones, ask of two tracks, of a track's fields and of the slices that they write. No definition of a call needs these.
use Rattle.std.specs.Prelude.{ℕ, ◌*◌, ◌≤◌, true, List, ◌≡◌, Float, length}
use Rattle.kernel.specs.Answer.{Outcome}
use Rattle.dense.specs.Matrix.{is_side}
use Rattle.tracks.specs.Layout.{fields}
use Rattle.std.specs.Prelude.{Ok, Err}

-- two tracks of dimension n: questions 1 and 2 are met
pub record TwoTracks (mu x p-i p-j : List Float) (n : ℕ) : Type 0 where
  pub sided : is_side n ≡ true
  pub state-i : length mu ≡ n
  pub state-j : length x ≡ n
  pub covariance-i : length p-i ≡ n * n
  pub covariance-j : length p-j ≡ n * n

-- what follows a repair: its refusal stays
abbrev pub after_repaired : {R A : Type 0} → Outcome R → Outcome A → Outcome A
after_repaired (Err q) o = Err q
after_repaired (Ok r) o = o

-- the fields of a track of dimension d stand first in v
pub record FieldsFirst (d : ℕ) (v : List Float) : Type 0 where
  pub few : d ≤ 16
  pub enough : fields d ≤ length v

-- the same with room for the covariance
pub record CovarianceRoom (d : ℕ) (v out : List Float) : Type 0 where
  pub track : FieldsFirst d v
  pub room : length out ≡ d * d
