-- Words of the contracts of functions for our own crates and of private ones. No definition of a call needs these.
use Rattle.std.specs.Prelude.{ℕ, ◌*◌, true, List, ◌≡◌, Float, length}
use Rattle.kernel.specs.Constants.{nought, one}
use Rattle.kernel.specs.Number.{add, mul}
use Rattle.dense.specs.Matrix.{is_side}
use Rattle.repair.specs.Repair.{raised}

-- a matrix cov, n by n, with a slice for its repair: questions 1 and 2 are met
pub record Mending (n : ℕ) (cov out : List Float) : Type 0 where
  pub order : is_side n ≡ true
  pub matrix-size : length cov ≡ n * n
  pub out_size : length out ≡ n * n

-- the entry of the repair of a matrix of one entry: its eigenvector is 1.0
abbrev pub single_rebuilt : Float → Float → Float
single_rebuilt floor x = add nought (mul (mul one (raised floor x)) one)
