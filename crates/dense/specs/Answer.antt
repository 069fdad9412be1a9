-- What the outcome of a call means for the slice that it writes, and what the questions on its shape answer.
use Rattle.std.specs.Prelude.{◌≡◌, Bool, List, Float, Ok, Err}
use Rattle.kernel.specs.Answer.{Outcome, ask}
use Rattle.kernel.specs.declared.question.Question.TheVariants as question

-- The answer of a call that writes a slice, and what the slice holds afterwards: a refusal leaves it as it was.
abbrev pub after : Outcome (List Float) → List Float → Outcome Unit × List Float
after (Err q) old = (Err q, old)
after (Ok v) old = (Ok tt, v)

-- The call answers r and leaves new in a slice that held old.
abbrev pub Leaves : Outcome (List Float) → List Float → Outcome Unit → List Float → Type 0
Leaves outcome old r new = (r, new) ≡ after outcome old

-- Questions 1 and 2, of a call whose sides are sides or not, and whose lengths are theirs or not.
abbrev pub asked : Bool → Bool → Outcome Unit
asked sides lengths = ask question.Side sides (ask question.Length lengths (Ok tt))
