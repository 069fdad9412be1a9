-- What C is told of a fusion, and what the memory that it lent holds afterwards.
use Rattle.std.specs.Prelude.{ℕ, Ok, Err}
use Rattle.kernel.specs.Answer.{Outcome}
use Rattle.kernel.specs.Question.{question_number}
use Rattle.fusion.specs.declared.Fusion.{Fusion}
use Rattle.fusion.specs.declared.Fusion.TheVariants.{Fused, NotFused}

-- The code of an answer, and the place afterwards: 1 where a track is fused, 0 where there is none. A refusal leaves it as it was.
abbrev pub told_fusion : Outcome Fusion → ℕ → ℕ × ℕ
told_fusion (Ok Fused) old = (0, 1)
told_fusion (Ok NotFused) old = (0, 0)
told_fusion (Err q) old = (question_number q, old)
