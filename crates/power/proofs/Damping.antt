-- `tikhonov_with_report` by the answer of `tikhonov`: the questions are the same (`fits`), so is a refusal (`refused`), and what is written is the damped matrix (`reported`).
use Rattle.std.proofs.Common.{◌≡◌, ℕ, ◌*◌, Bool, true, false, ◌&&◌, List, refl, ap, sym}
use Rattle.std.specs.Prelude.{Ok, Err}
use lib.Ieee.{Float}
use Rattle.kernel.specs.Answer.{Outcome, ask}
use Rattle.kernel.specs.declared.question.Question.{Question}
use Rattle.kernel.specs.declared.question.Question.TheVariants as question
use Rattle.kernel.proofs.Answers.{answered_inj, refused_inj, ask_met, never_both}
use Rattle.dense.specs.Matrix.{is_side, has_length}
use Rattle.dense.specs.Answer.{Leaves}
use Rattle.dense.proofs.Tests.{two-long, long_of}
use Rattle.linalg.specs.Regularize.{damped, tikhonov}
use Rattle.power.specs.declared.TikhonovReport.{TikhonovReport}
use Rattle.power.specs.Condition.{condition, Damping, damping, tikhonov_with_report, after_damping}
use Rattle.power.specs.Private.{Matrices}
use Rattle.power.proofs.Calls.{answered_by}

-- a refusal of two questions
same_refusal : (p q : Question) (b c : Bool) (v : List Float) (d : Damping) (old : List Float) {k : Question} {r : Outcome TikhonovReport} {new : List Float}
    → Leaves (ask p b (ask q c (Ok v))) old (Err k) new → r ≡ Err k → ◌≡◌ {A = Outcome TikhonovReport × List Float} (r, new) (after_damping (ask p b (ask q c (Ok d))) old)
same_refusal p q true true v d old l e = never_both (sym (ap (λ (z : Outcome Unit × List Float). z.0) l))
same_refusal p q true false v d old l e = rw (e, refused_inj (ap (λ (z : Outcome Unit × List Float). z.0) l), ap (λ (z : Outcome Unit × List Float). z.1) l)
same_refusal p q false c v d old l e = rw (e, refused_inj (ap (λ (z : Outcome Unit × List Float). z.0) l), ap (λ (z : Outcome Unit × List Float). z.1) l)

module _ (cov : List Float) (alpha : Float) (n : ℕ) (old : List Float) where
  pub refused : {k : Question} {r : Outcome TikhonovReport} {new : List Float} → Leaves (tikhonov cov alpha n old) old (Err k) new → r ≡ Err k
      → ◌≡◌ {A = Outcome TikhonovReport × List Float} (r, new) (after_damping (tikhonov_with_report cov alpha n old) old)
  unfolding tikhonov tikhonov_with_report
  refused l e = same_refusal question.Side question.Length (is_side n) (has_length cov (n * n) && has_length old (n * n)) (damped cov alpha n) (damping cov alpha n) old l e

  pub record Fits (new : List Float) : Type 0 where
    pub shapes : Matrices n cov old
    pub written : new ≡ damped cov alpha n

  pub fits : {new : List Float} → Leaves (tikhonov cov alpha n old) old (Ok tt) new → Fits new
  unfolding tikhonov
  fits l =
      let o = answered_by (tikhonov cov alpha n old) old (Ok tt) l refl in
      let first = ask_met question.Side (is_side n) _ o in
      let second = ask_met question.Length (has_length cov (n * n) && has_length old (n * n)) _ first.1 in
      let long = two-long cov old (n * n) (n * n) second.0 in
      record { shapes = record { order = first.0; matrix = long.0; room = long.1 }; written = sym (answered_inj second.1) }

  pub reported : {new : List Float} {before after : Float} → Fits new → before ≡ condition cov n → after ≡ condition new n
      → ◌≡◌ {A = Outcome TikhonovReport × List Float} (Ok (record { alpha = alpha; condition_number_before = before; condition_number_after = after }), new)
      (after_damping (tikhonov_with_report cov alpha n old) old)
  unfolding tikhonov_with_report damping
  reported w eb ea = rw (w.shapes.order, long_of cov (n * n) w.shapes.matrix, long_of old (n * n) w.shapes.room, eb, ea, w.written)
