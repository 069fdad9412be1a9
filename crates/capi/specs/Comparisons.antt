-- What C is told of a comparison, and what the memory that it lent holds afterwards.
use Rattle.std.specs.Prelude.{ℕ, Float, Ok, Err}
use Rattle.kernel.specs.Answer.{Outcome}
use Rattle.kernel.specs.Question.{question_number}
use Rattle.compare.specs.declared.Comparison.{Comparison}
use Rattle.compare.specs.declared.Comparison.TheVariants.{Near, Far, NoDistance}

-- The kind, 0 for no distance, 1 for near and 2 for far, and the squared distance: it is written for near and far alone.
abbrev pub kind_and_distance : Comparison → Float → ℕ × Float
kind_and_distance NoDistance old = (0, old)
kind_and_distance (Near d2) old = (1, d2)
kind_and_distance (Far d2) old = (2, d2)

-- The code of an answer, and the two places afterwards: a refusal writes to none.
abbrev pub told_comparison : Outcome Comparison → ℕ → Float → ℕ × (ℕ × Float)
told_comparison (Ok c) kind d2 = (0, kind_and_distance c d2)
told_comparison (Err q) kind d2 = (question_number q, (kind, d2))
