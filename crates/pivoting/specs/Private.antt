-- Words of the private contracts: what the functions ask of their slices, and what they do to a row. No definition that a user reads needs them.
use Rattle.std.specs.Prelude.{ℕ, ◌*◌, ◌<◌, ◌≤◌, cond, List, ◌≡◌, eqb, ltb, Float, length}
use Rattle.kernel.specs.Number.{sub, mul, div}

-- two rows of equally many entries, with a column k
pub record TwoRows (k : ℕ) (x y : List Float) : Type 0 where
  pub column : k < length x
  pub even : length x ≡ length y

-- a matrix m of n rows, with a column k and a row x that is taken from its rows
pub record Clearing (n k : ℕ) (x m : List Float) : Type 0 where
  pub column : k < length x
  pub matrix : length m ≡ n * length x

-- a matrix m of n rows, with the pivot of column k in row p, and room x for that row
pub record PivotRow (n p k : ℕ) (m x : List Float) : Type 0 where
  pub row : p < n
  pub column : k < length x
  pub matrix : length m ≡ n * length x

-- a matrix m, with the norms s of its rows, and room x for a row
abbrev pub Elimination : List Float → List Float → List Float → Type 0
Elimination m s x = length m ≡ length s * length x

-- the same with a column k that has a row of its own
pub record Column (k : ℕ) (m s x : List Float) : Type 0 where
  pub diagonal : k < length s
  pub column : k < length x
  pub room : Elimination m s x

-- a matrix a, n by n, with right sides b and room for the solution, both n by r
pub record System (n r : ℕ) (a b out : List Float) : Type 0 where
  pub matrix : length a ≡ n * n
  pub sides : length b ≡ n * r
  pub solution : length out ≡ n * r

-- two vectors of as many entries, at most 16, and a square matrix of as many rows
pub record Under (x mu cov : List Float) : Type 0 where
  pub few : length x ≤ 16
  pub even : length mu ≡ length x
  pub square : length cov ≡ length x * length x

-- entry j of y less, right of column k, its own entry in column k over that of x, times x
abbrev pub below_pivot : (ℕ → Float) → (ℕ → Float) → ℕ → ℕ → Float
below_pivot x y k j = cond (ltb k j) (sub (y j) (mul (div (y k) (x k)) (x j))) (y j)

-- entry j of row i, from row k on, when the rows below row k are triangulated: x where i is k
abbrev pub pivot_or_below : (ℕ → Float) → (ℕ → Float) → ℕ → ℕ → ℕ → Float
pivot_or_below x y k i j = cond (eqb i k) (x j) (below_pivot x y k j)
