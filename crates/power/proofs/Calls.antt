-- What the calls of the crates below leave where their questions are met. `times_left` and `gram_left`: the slice holds the product, the
-- product with the transpose. `solve_refused` and `solve_done`: what an answer of `mat_solve` says of the solution.
use Prim.Native.Nat.{ℕ, ◌+◌, ◌*◌}
use mathlib.Core.Bool.{Bool, true, false}
use mathlib.Core.List.{List}
use mathlib.Core.Path.{◌≡◌, refl, sym, ap, ◌∙◌}
use lib.Ieee.{Float}
use Rattle.std.specs.Result.{is_err}
use Rattle.kernel.specs.Answer.{Outcome, ask}
use Rattle.kernel.proofs.Answers.{answered_inj, ask_met, never_both, never}
use Rattle.dense.specs.Answer.{after, Leaves}
use Rattle.dense.proofs.Tests.{long_of}
use Rattle.linalg.specs.Products.{mat_vec_mul, mat_ata, times, gram}
use Rattle.pivoting.specs.Pivot.{row_norms, some_scale, pivoted}
use Rattle.pivoting.specs.Solve.{start, reduced, solution, mat_solve, solved}
use Rattle.power.specs.Condition.{solution_of, is_refused}
use Rattle.power.specs.Private.{Matrices, Vectors}
use Rattle.std.specs.Prelude.{Ok, Err}
use Rattle.kernel.specs.declared.question.Question.{Question}
use Rattle.kernel.specs.declared.question.Question.TheVariants as question

-- a call that answers v leaves it
left : (o : Outcome (List Float)) (old : List Float) {r : Outcome Unit} {new v : List Float} → o ≡ Ok v → Leaves o old r new → new ≡ v
left o old e l = ap (λ (z : Outcome Unit × List Float). z.1) (l ∙ ap (λ (p : Outcome (List Float)). after p old) e)

refused_by : (o : Outcome (List Float)) (old : List Float) (r : Outcome Unit) {new : List Float} → Leaves o old r new → is_err r ≡ true → is_refused o ≡ true
refused_by (Err k) old r l e = refl
refused_by (Ok v) old (Err q) l e = never_both (ap (λ (z : Outcome Unit × List Float). z.0) (sym l))
refused_by (Ok v) old (Ok u) l e = never e

pub answered_by : (o : Outcome (List Float)) (old : List Float) (r : Outcome Unit) {new : List Float} → Leaves o old r new → is_err r ≡ false → o ≡ Ok new
answered_by (Err k) old (Err q) l e = never (sym e)
answered_by (Err k) old (Ok u) l e = never_both (ap (λ (z : Outcome Unit × List Float). z.0) l)
answered_by (Ok v) old r l e = ap (λ (z : Outcome Unit × List Float). Ok z.1) (sym l)

-- what is answered after two questions
value_of : (p q : Question) (b c : Bool) (v : List Float) {w : List Float} → ◌≡◌ {A = Outcome (List Float)} (ask p b (ask q c (Ok v))) (Ok w) → v ≡ w
value_of p q b c v e = answered_inj (ask_met q c (Ok v) (ask_met p b (ask q c (Ok v)) e).1).1

-- ---- with room for a matrix

module _ {n : ℕ} {a old : List Float} (m : Matrices n a old) {r : Outcome Unit} {new : List Float} where
  pub gram_left : Leaves (mat_ata a n n old) old r new → new ≡ gram a n n
  unfolding mat_ata
  gram_left l = left (mat_ata a n n old) old (rw (m.order, long_of a (n * n) m.matrix, long_of old (n * n) m.room)) l

-- ---- with a vector, and room for another

module _ {n : ℕ} {a x old : List Float} (m : Vectors n a x old) where
  pub times_left : {r : Outcome Unit} {new : List Float} → Leaves (mat_vec_mul a x n old) old r new → new ≡ times a x n n
  unfolding mat_vec_mul
  times_left l = left (mat_vec_mul a x n old) old (rw (m.order, long_of a (n * n) m.matrix, long_of x n m.left, long_of old n m.right)) l

  -- the questions on sides and lengths are met
  asked : mat_solve a x n old ≡ solved a x n 1
  unfolding mat_solve
  asked = rw (m.order, long_of a (n * n) m.matrix, long_of x n m.left, long_of old n m.right)

  pub solve_refused : {new : List Float} {r : Outcome Unit} → Leaves (mat_solve a x n old) old r new → is_err r ≡ true → is_refused (solved a x n 1) ≡ true
  solve_refused {r = r} l e = rw (sym asked, refused_by (mat_solve a x n old) old r l e)

  pub solve_done : {new : List Float} {r : Outcome Unit} → Leaves (mat_solve a x n old) old r new → is_err r ≡ false
      → (is_refused (solved a x n 1) ≡ false) × (new ≡ solution_of a n x)
  unfolding solved solution
  solve_done {new} {r} l e =
      let o : solved a x n 1 ≡ Ok new = sym asked ∙ answered_by (mat_solve a x n old) old r l e in
      (rw o, sym (value_of question.RowNorm question.PivotRatio (some_scale n (row_norms a n)) (pivoted n (n + 1) (reduced n (n + 1) (start a x n 1)) n) (solution_of a n x) o))
