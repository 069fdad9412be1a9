-- What the questions on a shape tell of a call that asks them first: where they refuse, the call refuses alike (`refused`), and else what comes
-- after them is its answer (`passed`).
use mathlib.Core.Bool.{Bool, true, false}
use mathlib.Core.Path.{◌≡◌, refl, sym, ap}
use Rattle.std.specs.Prelude.{Ok, Err}
use Rattle.kernel.specs.Answer.{Outcome, ask}
use Rattle.kernel.specs.declared.question.Question.{Question}
use Rattle.kernel.specs.declared.question.Question.TheVariants as question
use Rattle.kernel.proofs.Answers.{never_both, refused_inj}
use Rattle.dense.specs.Answer.{asked}

pub refused : {A : Type 0} {q : Question} (s l : Bool) (rest : Outcome A) → asked s l ≡ Err q → ask question.Side s (ask question.Length l rest) ≡ Err q
refused true true rest e = never_both e
refused true false rest e = ap Err (refused_inj e)
refused false l rest e = ap Err (refused_inj e)

pub passed : {A : Type 0} (s l : Bool) (rest : Outcome A) → asked s l ≡ Ok tt → ask question.Side s (ask question.Length l rest) ≡ rest
passed true true rest e = refl
passed true false rest e = never_both (sym e)
passed false l rest e = never_both (sym e)
