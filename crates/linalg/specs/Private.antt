-- Words of the private contracts: what the Cholesky factor asks of its slice. No definition that a user reads needs them.
use Rattle.std.specs.Prelude.{ℕ, ◌*◌, ◌-◌, ◌<◌, ◌≤◌, List, ◌++◌, ◌≡◌, Float, length, replicate}
use Rattle.kernel.specs.Constants.{nought}
use Rattle.linalg.specs.Cholesky.{factor}

-- l begins with p, and the rest is 0.0
unfoldable pub Padded : List Float → List Float → Type 0
Padded p l = (length p ≤ length l) × (l ≡ p ++ replicate (length l - length p) nought)

-- a matrix a, n by n, and the slice l of its factor, which holds the rows before row i
pub record Factoring (a : List Float) (n i : ℕ) (l : List Float) : Type 0 where
  pub row : i < n
  pub matrix : length a ≡ n * n
  pub room : length l ≡ n * n
  pub rows : Padded (factor a n i) l
