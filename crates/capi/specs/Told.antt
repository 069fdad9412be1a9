-- What C is told of an outcome, and what the memory that it lent holds afterwards.
use Rattle.std.specs.Prelude.{ℕ, ◌≡◌, List, Float, Ok, Err}
use Rattle.kernel.specs.Answer.{Outcome}
use Rattle.kernel.specs.Question.{question_number}
use Rattle.eigen.specs.Eigen.{Eigenpairs}
use Rattle.tracks.specs.declared.read.ListSize.{ListSize}

-- The number of a refusal's question, with the memory as it was; 0 and the result.
abbrev pub told : {A : Type 0} → Outcome A → A → ℕ × A
told (Err q) old = (question_number q, old)
told (Ok v) old = (0, v)

-- C is told r, and lent memory that held old holds new.
unfoldable pub Tells : {A : Type 0} → Outcome A → A → ℕ → A → Type 0
Tells outcome old r new = (r, new) ≡ told outcome old

-- Two slices that hold eigenvalues and eigenvectors.
abbrev pub pairs : List Float → List Float → Eigenpairs
pairs values vectors = record { values = values; vectors = vectors }

-- Of a list that is read: the code, and the count and the dimension afterwards.
abbrev pub told_read : Outcome ListSize → ℕ → ℕ → ℕ × (ℕ × ℕ)
told_read (Ok size) old_n old_d = (0, (size.count, size.dimension))
told_read (Err q) old_n old_d = (question_number q, (old_n, old_d))
