-- `row_times`: the inner product of a row and a vector.
use Prim.Native.Nat.{ℕ}
use mathlib.Core.List.{List}
use mathlib.Core.Path.{◌≡◌, refl}
use lib.Ieee.{Float}
use lib.ListN.{length}
use Rattle.dense.specs.Matrix.{dot_product, row_of}
use Rattle.dense.proofs.Laws.{row-sum}
use Rattle.linalg.specs.Products.{vector_entry}

pub row_times : (a y : List Float) (n i : ℕ) → length (row_of a n i) ≡ n → dot_product (row_of a n i) y (length (row_of a n i)) ≡ vector_entry a y n i
row_times a y n i e = rw e (row-sum a y n i refl)
