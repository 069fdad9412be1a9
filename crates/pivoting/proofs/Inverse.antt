-- `inverse-column`: a column of what `mat_inv` answers is what `mat_solve` answers for the unit vector of that column, with all their questions and refusals.
use Prim.Native.Nat.{ℕ, ◌*◌, ◌<◌}
use mathlib.Core.Bool.{Bool, true, false, ◌&&◌}
use mathlib.Core.List.{List}
use mathlib.Core.Path.{◌≡◌, refl, ap, ◌∙◌}
use lib.Ieee.{Float}
use lib.ListN.{length}
use Rattle.kernel.specs.Answer.{ask, through}
use Rattle.kernel.proofs.Lists.{length-tabulate, tabulate_ext}
use Rattle.dense.specs.Matrix.{column_of, unit_entry, identity, unit_vector, is_side, has_length}
use Rattle.dense.proofs.Laws.{at-matrix}
use Rattle.dense.proofs.Tests.{long_of}
use Rattle.pivoting.specs.Solve.{solved, mat_solve, inverse, mat_inv}
use Rattle.pivoting.proofs.Columns.{solved-column}
use Rattle.kernel.specs.declared.question.Question.TheVariants as question

identity-column : (n j : ℕ) → j < n → column_of (identity n) n n j ≡ unit_vector n j
identity-column n j h = tabulate_ext n _ _ (λ i k. at-matrix n n unit_entry i j k h)

-- out and x are room for the inverse and for the solution
pub inverse-column : (a out x : List Float) (n j : ℕ) → j < n → length out ≡ n * n → length x ≡ n → through (λ v. column_of v n n j) (mat_inv a n out) ≡ mat_solve a (unit_vector n j) n x
unfolding mat_inv mat_solve inverse
inverse-column a out x n j h p q =
    rw (long_of out (n * n) p, long_of (unit_vector n j) n (length-tabulate n (λ i. unit_entry i j)), long_of x n q) (go (is_side n) (has_length a (n * n)))
  where
    column : through (λ v. column_of v n n j) (inverse a n) ≡ solved a (unit_vector n j) n 1
    column = solved-column a (identity n) n n j h ∙ ap (λ (b : List Float). solved a b n 1) (identity-column n j h)

    go : (s l : Bool) → through (λ v. column_of v n n j) (ask question.Side s (ask question.Length (l && true) (inverse a n)))
        ≡ ask question.Side s (ask question.Length (l && (true && true)) (solved a (unit_vector n j) n 1))
    go true true = column
    go true false = refl
    go false l = refl
