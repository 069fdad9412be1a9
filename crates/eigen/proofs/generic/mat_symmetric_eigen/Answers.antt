-- A refusal of the shape is the call's, and else `eigenpairs` has the answer.
use Rattle.std.proofs.Common.{rules, ◌≡◌, ℕ, ◌*◌, Bool, ◌&&◌, List}
use Rattle.std.specs.Prelude.{Ok, Err}
use lib.Ieee.{Float}
use Rattle.kernel.specs.declared.question.Question.{Question}
use Rattle.dense.specs.Answer.{asked}
use Rattle.dense.specs.Matrix.{is_side, has_length}
use Rattle.dense.proofs.Asked.{refused, passed}
use Rattle.eigen.specs.Eigen.{eigenpairs, mat_symmetric_eigen}
use Rattle.eigen.proofs.generic.mat_symmetric_eigen.Goals as goal

module _ (a values vectors : List Float) (n : ℕ) where
  abbrev lengths : Bool
  lengths = has_length a (n * n) && (has_length values n && has_length vectors (n * n))

  refusal : {q : Question} → asked (is_side n) lengths ≡ Err q → mat_symmetric_eigen a n values vectors ≡ Err q
  unfolding mat_symmetric_eigen
  refusal e = refused (is_side n) lengths (eigenpairs a n) e

  answer : asked (is_side n) lengths ≡ Ok tt → mat_symmetric_eigen a n values vectors ≡ eigenpairs a n
  unfolding mat_symmetric_eigen
  answer e = passed (is_side n) lengths (eigenpairs a n) e

pub returns-in_err-ask_shape : goal.returns-in_err-ask_shape
returns-in_err-ask_shape c =
    let x = c.args in
    rw (refusal x.a.now x.values.now x.vectors.now x.n {q = c.in_err-ask_shape.field-0.0} (search rules)) (search rules)

pub returns : goal.returns
returns c =
    let x = c.args in
    rw (answer x.a.now x.values.now x.vectors.now x.n (search rules)) c.eigenpairs.ensures
