-- A loop that goes through the cells of a matrix, row by row: what holds of the cells that it has passed.
use Rattle.std.proofs.Common.{ℕ, ◌<◌, List}
use lib.Ieee.{Float}
use Rattle.dense.specs.Matrix.{at}

-- the entries of the cells before cell (i, j) of a, of n columns, are R's
pub record Cells (R : ℕ → ℕ → Float → Type 0) (n i j : ℕ) (a : List Float) : Type 0 where
  pub above : (k l : ℕ) → k < i → l < n → R k l (at a n k l)
  pub left : (l : ℕ) → l < j → R i l (at a n i l)
