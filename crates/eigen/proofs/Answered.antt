-- What an answered call says. `eigen_arranged`: its values and vectors are the diagonal and the columns of the swept state, in their order. `eigen_descends`: no later
-- eigenvalue is greater. `eigen_stable`: the order is a permutation, in which equal eigenvalues keep their places. `eigen_finite`: each is finite. All are of
-- `eigenpairs`, which is what an answered `mat_symmetric_eigen` gives (`call-answered`).
use Prim.Native.Nat.{ℕ, ◌*◌, ◌<◌}
use native.Mathlib.Omega.{arith}
use mathlib.Core.Bool.{true, false, ◌&&◌}
use mathlib.Core.List.{List}
use mathlib.Core.Path.{◌≡◌, refl, sym, ap, ◌∙◌}
use lib.Dec.{T}
use lib.Ieee.{Float, lt}
use Rattle.kernel.specs.Lists.{tabulate}
use Rattle.kernel.specs.Answer.{Outcome}
use Rattle.kernel.specs.Number.{finite}
use Rattle.kernel.proofs.Answers.{ask_met, answered_inj}
use Rattle.kernel.proofs.Doubles.Differences.{finite_number}
use Rattle.dense.specs.Matrix.{nth, is_side, has_length, finite_entries}
use Rattle.dense.proofs.Finite.{finite-entry}
use Rattle.dense.proofs.Laws.{nth-tabulate}
use Rattle.eigen.specs.Private.{Below, final}
use Rattle.eigen.specs.Eigen.{index_at, order, diagonal, arranged, Eigenpairs, pairs_of, eigenpairs, mat_symmetric_eigen}
use Rattle.eigen.proofs.Ordering.Orders.{order_below}
use Rattle.eigen.proofs.Ordering.Sorting.{Descends, order_descends, Once, order_once}
use Rattle.eigen.proofs.Ordering.Stability.{Numbers, Stable, order_stable}
use Rattle.std.specs.Prelude.{Ok}
use Rattle.kernel.specs.declared.question.Question.TheVariants as question

-- the diagonal of the state in which the sweeps end
abbrev pub eigenvalues : List Float → ℕ → List Float
eigenvalues a n = diagonal (final a n).entries n

pub eigenpairs-final : (a : List Float) (n : ℕ) → eigenpairs a n ≡ pairs_of n (final a n)
unfolding eigenpairs
eigenpairs-final a n = refl

-- the questions on sides and lengths are met
pub call-answered : (a : List Float) (n : ℕ) (values vectors : List Float) (r : Eigenpairs) → mat_symmetric_eigen a n values vectors ≡ Ok r → eigenpairs a n ≡ Ok r
unfolding mat_symmetric_eigen
call-answered a n values vectors r met =
    (ask_met question.Length (has_length a (n * n) && (has_length values n && has_length vectors (n * n))) (eigenpairs a n)
    (ask_met question.Side (is_side n) _ met).1).1

module _ (a : List Float) (n : ℕ) (r : Eigenpairs) (met : eigenpairs a n ≡ Ok r) where
  answers : pairs_of n (final a n) ≡ Ok r
  answers = sym (eigenpairs-final a n) ∙ met

  asked : (finite_entries (eigenvalues a n) n ≡ true) × ◌≡◌ {A = Outcome Eigenpairs} (Ok (arranged (eigenvalues a n) (final a n).vectors n (order (eigenvalues a n) n))) (Ok r)
  unfolding pairs_of
  asked = ask_met question.FiniteEigenvalues (finite_entries (eigenvalues a n) n) (Ok (arranged (eigenvalues a n) (final a n).vectors n (order (eigenvalues a n) n))) answers

  pub eigen_arranged : r ≡ arranged (eigenvalues a n) (final a n).vectors n (order (eigenvalues a n) n)
  eigen_arranged = sym (answered_inj asked.1)

  values-arranged : r.values ≡ tabulate n (λ k. nth (eigenvalues a n) (index_at (order (eigenvalues a n) n) k))
  unfolding arranged
  values-arranged = ap (λ (e : Eigenpairs). e.values) eigen_arranged

  nth-values : (i : ℕ) → i < n → nth r.values i ≡ nth (eigenvalues a n) (index_at (order (eigenvalues a n) n) i)
  nth-values i h = ap (λ (l : List Float). nth l i) values-arranged ∙ nth-tabulate n (λ x. nth (eigenvalues a n) (index_at (order (eigenvalues a n) n) x)) i h

  pub eigen_descends : (i j : ℕ) → i < j → j < n → lt (nth r.values i) (nth r.values j) ≡ false
  unfolding Descends
  eigen_descends i j h k = rw (nth-values i (omega arith), nth-values j k) (order_descends (eigenvalues a n) n i j h k)

  finites : (i : ℕ) → i < n → T (finite (nth (eigenvalues a n) i))
  finites i h = rw (finite-entry (eigenvalues a n) n i asked.0 h) tt

  numbers : Numbers (eigenvalues a n) n
  unfolding Numbers
  numbers i h = finite_number (nth (eigenvalues a n) i) (finites i h)

  -- every eigenvalue is finite
  pub eigen_finite : (i : ℕ) → i < n → T (finite (nth r.values i))
  unfolding Below
  eigen_finite i h = rw (nth-values i h) (finites (index_at (order (eigenvalues a n) n) i) (order_below (eigenvalues a n) n i h))

  pub eigen_stable : Once n (order (eigenvalues a n) n) × Stable (eigenvalues a n) n (order (eigenvalues a n) n)
  eigen_stable = (order_once (eigenvalues a n) n, order_stable (eigenvalues a n) n numbers)
