-- Words of the private contracts: what the functions ask of their slices, and what a round leaves. No definition that a user reads needs them.
use Rattle.std.specs.Prelude.{ℕ, ◌*◌, Bool, true, List, ◌≡◌, Float, length}
use Rattle.dense.specs.Matrix.{is_side, norm}
use Rattle.linalg.specs.Products.{times}
use Rattle.power.specs.Power.{advanced, converges}

-- a matrix a, n by n, with room for another
pub record Matrices (n : ℕ) (a g : List Float) : Type 0 where
  pub order : is_side n ≡ true
  pub matrix : length a ≡ n * n
  pub room : length g ≡ n * n

-- a matrix a, n by n, with two vectors
pub record Vectors (n : ℕ) (a x y : List Float) : Type 0 where
  pub order : is_side n ≡ true
  pub matrix : length a ≡ n * n
  pub left : length x ≡ n
  pub right : length y ≡ n

-- a matrix a, n by n, with a vector v and their product w
pub record Multiplied (n : ℕ) (a v w : List Float) : Type 0 where
  pub order : is_side n ≡ true
  pub matrix : length a ≡ n * n
  pub vector : length v ≡ n
  pub room : length w ≡ n
  pub product : w ≡ times a v n n

-- the same with the size of the product, which is its norm
pub record Measured (n : ℕ) (a v w : List Float) (size : Float) : Type 0 where
  pub multiplied : Multiplied n a v w
  pub measure : size ≡ norm w n

-- what a round from v leaves: whether it has converged, the next vector u and its product x
pub record Rounded (a : List Float) (n : ℕ) (tol : Float) (v : List Float) (r : Bool) (u x : List Float) : Type 0 where
  pub converged : r ≡ converges a n tol v
  pub vector : u ≡ advanced a n v
  pub product : x ≡ times a u n n
