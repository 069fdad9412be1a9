-- A matrix of one entry: its sweeps have no pair to rotate (`single_after`), so its eigenvalue is the entry and its vector 1.0 (`single-eigenpairs`).
use Prim.Native.Nat.{ℕ, zero, suc}
use mathlib.Core.List.{List, [], ◌∷◌}
use mathlib.Core.Path.{◌≡◌, refl, ap, ◌∙◌}
use native.Mathlib.Omega.{arith}
use lib.Ieee.{Float}
use lib.ListN.{length, set}
use Rattle.kernel.specs.Answer.{ask}
use Rattle.kernel.specs.Constants.{one}
use Rattle.kernel.specs.First.{first_below}
use Rattle.kernel.specs.Lists.{tabulate}
use Rattle.kernel.specs.Number.{finite}
use Rattle.dense.specs.Matrix.{nth, matrix, finite_entries}
use Rattle.eigen.specs.Rotation.{State}
use Rattle.eigen.specs.Eigen.{symmetrized_entry, begun, tolerance, swept_row, swept_rows, after_sweeps, sweeps, swept, spot, inserted_at, order, arranged, pairs_of, eigenpairs}
use Rattle.eigen.proofs.Answered.{eigenpairs-final}
use Rattle.std.specs.Prelude.{Ok}
use Rattle.kernel.specs.declared.question.Question.TheVariants as question

single_after : (s : State) (k : ℕ) → after_sweeps 1 s k ≡ s
unfolding after_sweeps swept_rows swept_row
single_after s zero = refl
single_after s (suc k) = single_after s k

single-swept : (tol : Float) (s : State) → swept 1 tol s ≡ s
unfolding swept
single-swept tol s = single_after s (sweeps 1 tol s)

single-pairs : (a : List Float) → pairs_of 1 (begun a 1) ≡ ask question.FiniteEigenvalues (finite (nth a 0)) (Ok (record { values = nth a 0 ∷ []; vectors = one ∷ [] }))
unfolding pairs_of begun symmetrized_entry matrix tabulate finite_entries arranged order spot inserted_at first_below
single-pairs a = refl

pub single-eigenpairs : (a : List Float) → eigenpairs a 1 ≡ ask question.FiniteEigenvalues (finite (nth a 0)) (Ok (record { values = nth a 0 ∷ []; vectors = one ∷ [] }))
single-eigenpairs a = eigenpairs-final a 1 ∙ ap (pairs_of 1) (single-swept (tolerance (begun a 1).entries 1) (begun a 1)) ∙ single-pairs a

-- a list of one element, once it is stored
pub single_stored : (l : List Float) (x : Float) → length l ≡ 1 → set l 0 x ≡ x ∷ []
single_stored [] x e = absurd (omega arith)
single_stored (y ∷ []) x e = refl
single_stored (y ∷ z ∷ l) x e = absurd (omega arith)

-- and the list of its only element
pub single-list : (l : List Float) → length l ≡ 1 → l ≡ nth l 0 ∷ []
single-list [] e = absurd (omega arith)
single-list (y ∷ []) e = refl
single-list (y ∷ z ∷ l) e = absurd (omega arith)
