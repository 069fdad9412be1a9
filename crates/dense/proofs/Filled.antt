-- How far a slice has been written, entry by entry (`Filled`) or row by row (`FilledRows`).
use Prim.Native.Nat.{ℕ, ◌*◌, ◌<◌, ◌≤◌}
use mathlib.Core.Path.{◌≡◌}
use mathlib.Core.List.{List}
use lib.Ieee.{Float}
use lib.ListN.{length, take}
use Rattle.dense.specs.Matrix.{nth, matrix}

-- the entries before i are those of f, and the others are still those of old
pub record Filled (f : ℕ → Float) (old : List Float) (i : ℕ) (new : List Float) : Type 0 where
  pub size : length new ≡ length old
  pub done : (q : ℕ) → q < i → nth new q ≡ f q
  pub left : (q : ℕ) → i ≤ q → nth new q ≡ nth old q

-- the rows before row i, of n columns, are those of f
pub record FilledRows (f : ℕ → ℕ → Float) (n : ℕ) (old : List Float) (i : ℕ) (new : List Float) : Type 0 where
  pub size : length new ≡ length old
  pub done : take (i * n) new ≡ matrix i n f
