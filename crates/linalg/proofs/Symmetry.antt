-- Entries that do not depend on which of their two indices is the lesser: `ata-either`, of the product of a transpose and its matrix, and `mean`, of two entries
-- that face each other.
use Prim.Native.Nat.{ℕ, ◌<◌, ◌≤◌, min, max}
use native.Mathlib.Omega.{arith}
use native.Mathlib.Decide.{dec_lt}
use mathlib.Core.List.{List}
use mathlib.Core.Path.{◌≡◌}
use lib.Ieee.{Float}
use Rattle.kernel.specs.Number.{add, mul}
use Rattle.kernel.specs.Constants.{half}
use Rattle.kernel.proofs.Doubles.Commute.{add_float_comm, mul_float_comm}
use Rattle.dense.specs.Matrix.{total, at}
use Rattle.dense.proofs.Laws.{sum_ext}
use Rattle.linalg.specs.Products.{ata_entry, symmetric_entry}

greater : {i j : ℕ} → i < j → (max i j ≡ j) × (min i j ≡ i)
greater h = (omega arith, omega arith)

lesser : {i j : ℕ} → j ≤ i → (max i j ≡ i) × (min i j ≡ j)
lesser h = (omega arith, omega arith)

-- the sum of the products of two columns, whichever comes first
pub ata-either : (a : List Float) (m n i j : ℕ) → total m (λ k. mul (at a n k i) (at a n k j)) ≡ ata_entry a m n i j
ata-either a m n i j = go (dec_lt i j)
  where
    go : Dec (i < j) → total m (λ k. mul (at a n k i) (at a n k j)) ≡ ata_entry a m n i j
    go (yes h) = rw ((greater h).0, (greater h).1) (sum_ext _ m _ _ (λ k l. mul_float_comm (at a n k i) (at a n k j)))
    go (no h) = let w = lesser {i = i} {j = j} (omega arith) in rw (w.0, w.1)

-- the mean of two entries that face each other, whichever comes first
pub mean : (a : List Float) (n i j : ℕ) {x y : Float} → x ≡ at a n i j → y ≡ at a n j i → mul (add x y) half ≡ symmetric_entry a n i j
mean a n i j p q = rw (p, q) (go (dec_lt i j))
  where
    go : Dec (i < j) → mul (add (at a n i j) (at a n j i)) half ≡ symmetric_entry a n i j
    go (yes h) = rw ((greater h).0, (greater h).1)
    go (no h) = let w = lesser {i = i} {j = j} (omega arith) in rw (w.0, w.1, add_float_comm (at a n i j) (at a n j i))
