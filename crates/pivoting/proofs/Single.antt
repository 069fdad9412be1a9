-- `single_distance`: the distance of order 1, by its three numbers.
use mathlib.Core.Bool.{Bool, true, false, not, cond}
use mathlib.Core.List.{[], ◌∷◌}
use mathlib.Core.Path.{◌≡◌, refl, ap, ◌∙◌}
use lib.Ieee.{Float, lt}
use Rattle.kernel.specs.Answer.{ask, through}
use Rattle.kernel.specs.Constants.{nought, one, min_scale}
use Rattle.kernel.specs.Lists.{tabulate}
use Rattle.kernel.specs.Number.{add, sub, mul, div, abs}
use Rattle.dense.specs.Matrix.{matrix, sum_from, sum_rows_from, row_of, identity, max_abs}
use Rattle.linalg.specs.Sums.{difference, quadratic_form}
use Rattle.pivoting.specs.declared.Pivot.{Pivot}
use Rattle.pivoting.specs.Pivot.{some_scale, consider, best_of, taken, swapped, pivoted}
use Rattle.pivoting.specs.Solve.{step_entry, column, reduced, augmented, solution, solved, distance}
use Rattle.std.specs.Prelude.{Ok}
use Rattle.kernel.specs.declared.question.Question.TheVariants as question

-- no row is best yet
abbrev pub unchosen : Pivot
unchosen = record { ratio = nought; row = 0 }

-- the best row is the only one
row_0 : (s x : Float) → (consider unchosen s x 0).row ≡ 0
unfolding consider
row_0 s x = go (lt s min_scale) (lt nought (div (abs x) s))
  where
    go : (a b : Bool) → (cond a unchosen (cond b (record { ratio = div (abs x) s; row = 0 }) unchosen)).row ≡ 0
    go true b = refl
    go false true = refl
    go false false = refl

through_asks : {A B : Type 0} (f : A → B) (v : A) (a b : Bool) → through f (ask question.RowNorm a (ask question.PivotRatio b (Ok v))) ≡ ask question.RowNorm a (ask question.PivotRatio b (Ok (f v)))
through_asks f v true true = refl
through_asks f v true false = refl
through_asks f v false b = refl

module _ (x mu cov : Float) where
  abbrev pub norm : Float
  norm = max_abs (cov ∷ []) 1

  -- questions 5 and 6, and then the inverse
  single-inverse : solved (cov ∷ []) (identity 1) 1 1 ≡ ask question.RowNorm (not (lt norm min_scale)) (ask question.PivotRatio (taken (consider unchosen norm cov 0)) (Ok (div one cov ∷ [])))
  unfolding solved some_scale pivoted best_of solution reduced column step_entry swapped augmented matrix tabulate row_of
  single-inverse = rw (row_0 norm cov)

  pub single_distance : distance (x ∷ []) (mu ∷ []) (cov ∷ []) 1
      ≡ ask question.RowNorm (not (lt norm min_scale))
      (ask question.PivotRatio (taken (consider unchosen norm cov 0))
      (Ok (add nought (mul (mul (sub x mu) (div one cov)) (sub x mu)))))
  unfolding distance quadratic_form sum_rows_from sum_from tabulate
  single_distance = ap (through (λ inv. quadratic_form (difference (x ∷ []) (mu ∷ []) 1) inv 1)) single-inverse ∙ through_asks _ _ (not (lt norm min_scale)) (taken (consider unchosen norm cov 0))
