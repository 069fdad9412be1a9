-- A refusal of the shape is the call's, and else the repair has the answer.
use Rattle.std.proofs.Common.{rules, ◌≡◌, ℕ, ◌*◌, Bool, ◌&&◌, List}
use Rattle.std.specs.Prelude.{Ok, Err}
use lib.Ieee.{Float}
use Rattle.kernel.specs.declared.question.Question.{Question}
use Rattle.dense.specs.Answer.{asked}
use Rattle.dense.specs.Matrix.{is_side, has_length}
use Rattle.dense.proofs.Asked.{refused, passed}
use Rattle.repair.specs.Repair.{repair, nearest_psd}
use Rattle.repair.proofs.regularize.asked_repair.Goals as goal

module _ (cov : List Float) (floor : Float) (n : ℕ) (out : List Float) where
  abbrev lengths : Bool
  lengths = has_length cov (n * n) && has_length out (n * n)

  refusal : {q : Question} → asked (is_side n) lengths ≡ Err q → nearest_psd cov floor n out ≡ Err q
  unfolding nearest_psd
  refusal e = refused (is_side n) lengths (repair cov floor n) e

  answer : asked (is_side n) lengths ≡ Ok tt → nearest_psd cov floor n out ≡ repair cov floor n
  unfolding nearest_psd
  answer e = passed (is_side n) lengths (repair cov floor n) e

pub returns-in_err-ask_shape : goal.returns-in_err-ask_shape
returns-in_err-ask_shape c =
    let x = c.args in
    rw (refusal x.cov.now x.floor x.n x.out.now {q = c.in_err-ask_shape.field-0.0} (search rules)) (search rules)

pub returns : goal.returns
returns c =
    let x = c.args in
    rw (answer x.cov.now x.floor x.n x.out.now (search rules)) c.repair.ensures
