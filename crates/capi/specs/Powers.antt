-- What C is told of a damping.
use Rattle.std.specs.Prelude.{ℕ, Float, Ok, Err}
use Rattle.kernel.specs.Answer.{Outcome}
use Rattle.kernel.specs.Question.{question_number}
use Rattle.power.specs.declared.TikhonovReport.{TikhonovReport}

-- The condition numbers of a report.
abbrev pub condition_numbers : TikhonovReport → Float × Float
condition_numbers t = (t.condition_number_before, t.condition_number_after)

-- The code of an answer, and the two places afterwards: a refusal writes to none.
abbrev pub told_damping : Outcome TikhonovReport → Float → Float → ℕ × (Float × Float)
told_damping (Ok t) before after = (0, condition_numbers t)
told_damping (Err q) before after = (question_number q, (before, after))
