-- The calls of linalg/mat3.rs: determinant, inverse and solution of a 3 by 3 system by cofactors.
use Rattle.std.specs.Prelude.{ℕ, Bool, not, ◌&&◌, cond, List, [], ◌∷◌, eqb, Float}
use Rattle.std.specs.Float.Ieee.{lt}
use Rattle.kernel.specs.Number.{add, sub, mul, div, abs, max}
use Rattle.kernel.specs.Answer.{Outcome, ask}
use Rattle.dense.specs.Matrix.{nth, at, matrix, has_length, max_abs}
use Rattle.kernel.specs.Lists.{tabulate}
use Rattle.kernel.specs.Constants.{one, rel_tol, min_positive}
use Rattle.std.specs.Prelude.{Ok}
use Rattle.kernel.specs.declared.question.Question.TheVariants as question

-- the determinant by the cofactors of the first row
unfoldable pub det3 : List Float → Float
det3 m =
    let e = at m 3 in
    add
    (sub (mul (e 0 0) (sub (mul (e 1 1) (e 2 2)) (mul (e 1 2) (e 2 1)))) (mul (e 0 1) (sub (mul (e 1 0) (e 2 2)) (mul (e 1 2) (e 2 0)))))
    (mul (e 0 2) (sub (mul (e 1 0) (e 2 1)) (mul (e 1 1) (e 2 0))))

-- the scale of document 01: the cube of the greatest |entry|
unfoldable pub scale : List Float → Float
unfolding max_abs
scale m = let g = max_abs m 9 in mul (mul g g) g

-- question 8: |det| is not below 1e-14 of the scale, or of MIN_POSITIVE where that is greater
unfoldable pub regular : List Float → Bool
unfolding det3 scale
regular m = not (lt (abs (det3 m)) (mul rel_tol (max (scale m) min_positive)))

-- the adjugate over the determinant, row by row
unfoldable pub inverse3 : List Float → List Float
unfolding det3
inverse3 m =
    let d = div one (det3 m) in
    let e = at m 3 in
    mul (sub (mul (e 1 1) (e 2 2)) (mul (e 1 2) (e 2 1))) d
    ∷ mul (sub (mul (e 0 2) (e 2 1)) (mul (e 0 1) (e 2 2))) d
    ∷ mul (sub (mul (e 0 1) (e 1 2)) (mul (e 0 2) (e 1 1))) d
    ∷ mul (sub (mul (e 1 2) (e 2 0)) (mul (e 1 0) (e 2 2))) d
    ∷ mul (sub (mul (e 0 0) (e 2 2)) (mul (e 0 2) (e 2 0))) d
    ∷ mul (sub (mul (e 0 2) (e 1 0)) (mul (e 0 0) (e 1 2))) d
    ∷ mul (sub (mul (e 1 0) (e 2 1)) (mul (e 1 1) (e 2 0))) d
    ∷ mul (sub (mul (e 0 1) (e 2 0)) (mul (e 0 0) (e 2 1))) d
    ∷ mul (sub (mul (e 0 0) (e 1 1)) (mul (e 0 1) (e 1 0))) d
    ∷ []

-- a with b in the place of column j
unfoldable pub replaced : List Float → List Float → ℕ → List Float
unfolding matrix tabulate
replaced a b j = matrix 3 3 (λ p q. cond (eqb q j) (nth b p) (at a 3 p q))

-- Cramer's rule
unfoldable pub solution3 : List Float → List Float → List Float
unfolding det3 replaced tabulate
solution3 a b = tabulate 3 (λ j. mul (det3 (replaced a b j)) (div one (det3 a)))

-- `mat3_det`
unfoldable pub mat3_det : List Float → Outcome Float
unfolding det3 has_length
mat3_det m = ask question.Length (has_length m 9) (Ok (det3 m))

-- `mat3_inv`
unfoldable pub mat3_inv : List Float → List Float → Outcome (List Float)
unfolding inverse3 regular has_length
mat3_inv m out = ask question.Length (has_length m 9 && has_length out 9) (ask question.Determinant (regular m) (Ok (inverse3 m)))

-- `mat3_solve`
unfoldable pub mat3_solve : List Float → List Float → List Float → Outcome (List Float)
unfolding solution3 regular has_length
mat3_solve a b out = ask question.Length (has_length a 9 && (has_length b 3 && has_length out 3)) (ask question.Determinant (regular a) (Ok (solution3 a b)))
