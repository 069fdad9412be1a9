-- The answer of a call that has done its work (`done`), and of one that refused after it was begun (`kept`).
use mathlib.Core.List.{List}
use mathlib.Core.Path.{◌≡◌, ap}
use lib.Ieee.{Float}
use Rattle.std.specs.Prelude.{Ok, Err}
use Rattle.kernel.specs.Answer.{Outcome}
use Rattle.kernel.specs.declared.question.Question.{Question}

pub done : {new v : List Float} → new ≡ v → ◌≡◌ {A = Outcome Unit × List Float} (Ok tt, new) (Ok tt, v)
done e = ap (λ (l : List Float). (Ok tt, l)) e

pub kept : {q : Question} {new old : List Float} → new ≡ old → ◌≡◌ {A = Outcome Unit × List Float} (Err q, new) (Err q, old)
kept {q} e = ap (λ (l : List Float). (Err q, l)) e
