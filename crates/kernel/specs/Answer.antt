-- What a call answers: a value, or the first question of document 01 that is not met.
use Rattle.std.specs.Prelude.{Bool, true, false, Result, Ok, Err}
use Rattle.kernel.specs.declared.question.Question.{Question}

-- The outcome of a call that gives an A where it does not refuse.
abbrev pub Outcome : Type 0 → Type 0
Outcome A = Result A Question

-- Question q is put before the rest: where its test fails, q is the answer.
abbrev pub ask : {A : Type 0} → Question → Bool → Outcome A → Outcome A
ask q true rest = rest
ask q false rest = Err q

-- What follows from a value that was answered; a refusal stays as it is.
abbrev pub and_then : {A B : Type 0} → Outcome A → (A → Outcome B) → Outcome B
and_then (Err q) rest = Err q
and_then (Ok v) rest = rest v

-- f of a value that was answered; a refusal stays as it is.
abbrev pub through : {A B : Type 0} → (A → B) → Outcome A → Outcome B
through f (Err q) = Err q
through f (Ok v) = Ok (f v)
