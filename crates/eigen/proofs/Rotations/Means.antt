-- The matrix that the sweeps begin with: `mean_of` makes its entries in either order, and `symmetrized-symmetric` says that it is symmetric bit by bit.
use Prim.Native.Nat.{ℕ, ◌<◌, min, max}
use native.Mathlib.Omega.{arith}
use native.Mathlib.Nat.{min_comm, max_comm}
use native.Mathlib.Decide.{ℕ_discrete, dec_lt}
use mathlib.Core.List.{List}
use mathlib.Core.Path.{◌≡◌, sym, ◌∙◌}
use borrow.Author.Tests.{ne_eqb}
use lib.Ieee.{Float}
use Rattle.kernel.specs.Number.{add, mul}
use Rattle.kernel.specs.Constants.{half}
use Rattle.dense.specs.Matrix.{at}
use Rattle.dense.proofs.Laws.{at-matrix}
use Rattle.kernel.proofs.Doubles.Commute.{add_float_comm}
use Rattle.eigen.specs.Eigen.{symmetrized_entry, symmetrized}
use Rattle.eigen.specs.Rotation.{Symmetric}

pub mean_of : (a : List Float) (n i j : ℕ) {x y : Float} → (i ≡ j → ⊥) → x ≡ at a n i j → y ≡ at a n j i → mul half (add x y) ≡ symmetrized_entry a n i j
unfolding symmetrized_entry
mean_of a n i j {x} {y} ne e f = rw (ne_eqb i j ne, e, f) (go (dec_lt i j))
  where
    go : Dec (i < j) → mul half (add (at a n i j) (at a n j i)) ≡ mul half (add (at a n (min i j) (max i j)) (at a n (max i j) (min i j)))
    go (yes h) = let p : max i j ≡ j = omega arith in let q : min i j ≡ i = omega arith in rw (p, q)
    go (no h) = let p : max i j ≡ i = omega arith in let q : min i j ≡ j = omega arith in rw (p, q, add_float_comm (at a n i j) (at a n j i))

pub symmetrized-symmetric : (a : List Float) (n : ℕ) → Symmetric n (symmetrized a n)
unfolding Symmetric symmetrized_entry
symmetrized-symmetric a n i j h k = at-matrix n n _ i j h k ∙ go (ℕ_discrete i j) ∙ sym (at-matrix n n _ j i k h)
  where
    go : Dec (i ≡ j) → symmetrized_entry a n i j ≡ symmetrized_entry a n j i
    go (yes e) = rw e
    go (no e) = rw (ne_eqb i j e, ne_eqb j i (λ w. e (sym w)), min_comm i j, max_comm i j)
