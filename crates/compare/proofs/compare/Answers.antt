-- A refusal of the shape is the call's, and else question 18 and the comparison follow.
use Rattle.std.proofs.Common.{rules, ◌≡◌, sym, ap, ℕ, ◌*◌, Bool, ◌&&◌, List}
use Rattle.std.specs.Prelude.{Ok, Err}
use lib.Ieee.{Float}
use Rattle.kernel.specs.Answer.{ask}
use Rattle.kernel.specs.declared.question.Question.{Question}
use Rattle.kernel.specs.declared.question.Question.TheVariants as question
use Rattle.dense.specs.Answer.{asked}
use Rattle.dense.specs.Matrix.{is_side, has_length}
use Rattle.dense.proofs.Asked.{refused, passed}
use Rattle.compare.specs.Distance.{floor_and_gate, compared, compared_with_report, comparing}
use Rattle.compare.specs.declared.ComparisonReport.{ComparisonReport}
use Rattle.compare.proofs.compare.Goals as goal

module _ (mu x p q : List Float) (n : ℕ) (floor gate : Float) where
  abbrev lengths : Bool
  lengths = has_length mu n && (has_length x n && (has_length p (n * n) && has_length q (n * n)))

  refusal : {k : Question} → asked (is_side n) lengths ≡ Err k → comparing mu x p q n floor gate ≡ Err k
  unfolding comparing
  refusal e = refused (is_side n) lengths _ e

  answer : asked (is_side n) lengths ≡ Ok tt
      → comparing mu x p q n floor gate ≡ ask question.FloorAndGate (floor_and_gate floor gate) (Ok (compared mu x p q n floor gate))
  unfolding comparing
  answer e = passed (is_side n) lengths _ e

  compares : {r : ComparisonReport} → r ≡ compared_with_report mu x p q n floor gate → r.comparison ≡ compared mu x p q n floor gate
  unfolding compared_with_report
  compares e = ap (λ (r : ComparisonReport). r.comparison) e

pub returns-in_err-ask_shape : goal.returns-in_err-ask_shape
returns-in_err-ask_shape c =
    let x = c.args in
    rw (refusal x.mu.now x.x.now x.p_i.now x.p_j.now x.n x.floor x.gate {k = c.in_err-ask_shape.field-0.0} (search rules)) (search rules)

pub returns-then-not-is_floor_and_gate : goal.returns-then-not-is_floor_and_gate
returns-then-not-is_floor_and_gate c =
    let x = c.args in
    rw (answer x.mu.now x.x.now x.p_i.now x.p_j.now x.n x.floor x.gate (search rules)) (search rules)

pub returns : goal.returns
returns c =
    let x = c.args in
    rw (answer x.mu.now x.x.now x.p_i.now x.p_j.now x.n x.floor x.gate (search rules), sym c.is_floor_and_gate.ensures, c.if-not-is_floor_and_gate.false)
    (ap Ok (compares x.mu.now x.x.now x.p_i.now x.p_j.now x.n x.floor x.gate c.compare_tracks-report.ensures))
