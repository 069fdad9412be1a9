-- What follows an inverse that is written, or its refusal, is the distance (`distance_over`, `distance_never`).
use mathlib.Core.Path.{◌≡◌}
use Rattle.std.proofs.Common.{ℕ, List, ap, sym}
use Rattle.kernel.proofs.Answers.{never_both, refused_inj}
use lib.Ieee.{Float}
use Rattle.kernel.specs.Answer.{Outcome}
use Rattle.dense.specs.Answer.{Leaves}
use Rattle.linalg.specs.Sums.{difference, quadratic_form}
use Rattle.pivoting.specs.Solve.{inverse, distance}
use Rattle.std.specs.Prelude.{Ok, Err}
use Rattle.kernel.specs.declared.question.Question.{Question}

wrote : (o : Outcome (List Float)) (old : List Float) {new : List Float} → Leaves o old (Ok tt) new → o ≡ Ok new
wrote (Err k) old e = never_both (ap (λ (p : Outcome Unit × List Float). p.0) e)
wrote (Ok v) old e = ap (λ (p : Outcome Unit × List Float). Ok p.1) (sym e)

refused : (o : Outcome (List Float)) (old : List Float) {q : Question} {new : List Float} → Leaves o old (Err q) new → o ≡ Err q
refused (Err k) old e = ap Err (refused_inj (ap (λ (p : Outcome Unit × List Float). p.0) (sym e)))
refused (Ok v) old e = never_both (ap (λ (p : Outcome Unit × List Float). p.0) (sym e))

pub distance_over : (x mu cov : List Float) (n : ℕ) (old : List Float) {new : List Float} → Leaves (inverse cov n) old (Ok tt) new
    → ◌≡◌ {A = Outcome Float} (Ok (quadratic_form (difference x mu n) new n)) (distance x mu cov n)
unfolding distance
distance_over x mu cov n old e = rw (wrote (inverse cov n) old e)

pub distance_never : (x mu cov : List Float) (n : ℕ) (old : List Float) {q : Question} {new : List Float} → Leaves (inverse cov n) old (Err q) new
    → ◌≡◌ {A = Outcome Float} (Err q) (distance x mu cov n)
unfolding distance
distance_never x mu cov n old e = rw (refused (inverse cov n) old e)
