-- `joint_sums`: the sums of the entries of two matrices, one after the other, are their joint covariance. `joint-symmetric`: it is the same,
-- bit for bit, whichever track comes first, and so is its repair, `repair-symmetric`.
use Prim.Native.Nat.{ℕ, ◌*◌}
use mathlib.Core.List.{List}
use mathlib.Core.Path.{◌≡◌, ap}
use lib.Ieee.{Float}
use Rattle.kernel.specs.Lists.{tabulate}
use Rattle.kernel.specs.Number.{add}
use Rattle.kernel.proofs.Lists.{length-tabulate}
use Rattle.dense.specs.Matrix.{nth, at}
use Rattle.dense.proofs.Laws.{cell, nth-tabulate, matrix_by_entries, matrix_ext}
use Rattle.kernel.proofs.Doubles.Commute.{add_float_comm}
use Rattle.repair.specs.Repair.{repair}
use Rattle.compare.specs.Distance.{joint_covariance, joint_repair}

pub joint_sums : (p q : List Float) (n : ℕ) → tabulate (n * n) (λ k. add (nth p k) (nth q k)) ≡ joint_covariance p q n
unfolding joint_covariance
joint_sums p q n = matrix_by_entries n n _ _ (length-tabulate (n * n) _) (λ i j h k. nth-tabulate (n * n) _ _ (cell h k))

pub joint-symmetric : (p q : List Float) (n : ℕ) → joint_covariance p q n ≡ joint_covariance q p n
unfolding joint_covariance
joint-symmetric p q n = matrix_ext n n _ _ (λ i j h k. add_float_comm (at p n i j) (at q n i j))

pub repair-symmetric : (p q : List Float) (n : ℕ) (floor : Float) → joint_repair p q n floor ≡ joint_repair q p n floor
unfolding joint_repair
repair-symmetric p q n floor = ap (λ (s : List Float). repair s floor n) (joint-symmetric p q n)
