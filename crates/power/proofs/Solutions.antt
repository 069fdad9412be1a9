-- A round of the inverse iteration by the answer of `mat_solve`: `unsolved` where it is refused; else `solved_as` says what was solved, and `norm_tested`
-- what the test of its norm says.
use Prim.Native.Nat.{ℕ}
use mathlib.Core.Bool.{true, false}
use mathlib.Core.List.{List}
use mathlib.Core.Path.{◌≡◌}
use lib.Ieee.{Float, lt}
use lib.ListN.{length}
use Rattle.std.specs.Result.{is_err}
use Rattle.kernel.specs.Answer.{Outcome}
use Rattle.kernel.specs.Constants.{least_norm}
use Rattle.dense.specs.Answer.{Leaves}
use Rattle.dense.specs.Matrix.{norm}
use Rattle.pivoting.specs.Solve.{mat_solve}
use Rattle.power.specs.Condition.{Iterate, iterate, fails, solution_of}
use Rattle.power.specs.Private.{Vectors}
use Rattle.power.proofs.Calls.{solve_refused, solve_done}
use Rattle.power.proofs.Ratios.{Before, fails_refused, fails_test}

-- before a round, with the slices of the first
module _ {g first room x : List Float} {n k : ℕ} {s : Iterate} {l : Float} (b : Before g n s k x l) (m : Vectors n g first room) (y : List Float) (right : length y ≡ n) where
  slices : Vectors n g x y
  slices = record { order = m.order; matrix = m.matrix; left = b.vector; right = right }

  module _ {r : Outcome Unit} {new : List Float} (solving : Leaves (mat_solve g x n y) y r new) where
    pub unsolved : is_err r ≡ true → fails g n (iterate x l) ≡ true
    unsolved e = fails_refused b (solve_refused slices solving e)

    module _ (e : is_err r ≡ false) where
      pub solved_as : new ≡ solution_of g n x
      solved_as = (solve_done slices solving e).1

      pub norm_tested : {size : Float} → length new ≡ n → size ≡ norm new (length new) → lt size least_norm ≡ fails g n (iterate x l)
      norm_tested wide measured = fails_test b (solve_done slices solving e).0 solved_as (rw wide at measured)
