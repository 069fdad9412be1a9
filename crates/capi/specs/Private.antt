-- Words of the private contracts in told.rt. No contract of a call for C needs them.
use Rattle.std.specs.Prelude.{ℕ, Ok, Err}
use Rattle.kernel.specs.Answer.{Outcome}
use Rattle.kernel.specs.Question.{question_number}

-- the code of an answer
abbrev pub code : Outcome Unit → ℕ
code (Ok u) = 0
code (Err q) = question_number q
