-- `mat_symmetric_eigen`, of document 01, "Eigenpairs": sweeps of rotations until a test stops them, and the eigenvalues in descending order.
use Rattle.std.specs.Prelude.{ℕ, zero, suc, ◌+◌, ◌*◌, ◌-◌, min, max, Bool, cond, ◌&&◌, List, [], eqb, ltb, Float, get_or}
use Rattle.std.specs.Float.Ieee.{lt}
use Rattle.kernel.specs.Number as number
use Rattle.kernel.specs.Number.{add, mul}
use Rattle.kernel.specs.Answer.{Outcome, ask}
use Rattle.kernel.specs.Constants.{nought, half, rel_tol, min_positive}
use Rattle.kernel.specs.First.{first_below}
use Rattle.kernel.specs.Lists.{tabulate}
use Rattle.dense.specs.Matrix.{total, sum_from, nth, at, matrix, identity, is_side, has_length, finite_entries}
use Rattle.eigen.specs.Rotation.{State, state, rotated}
use Rattle.std.specs.Prelude.{Ok, Err}
use Rattle.kernel.specs.declared.question.Question.TheVariants as question

-- ---- the start

-- entry (i, j) of a, n by n, made symmetric: 0.5·(m_ij + m_ji) off the diagonal, the entry above it first
unfoldable pub symmetrized_entry : List Float → ℕ → ℕ → ℕ → Float
symmetrized_entry a n i j = cond (eqb i j) (at a n i j) (mul half (add (at a n (min i j) (max i j)) (at a n (max i j) (min i j))))

abbrev pub symmetrized : List Float → ℕ → List Float
symmetrized a n = matrix n n (symmetrized_entry a n)

-- the symmetric matrix, with the unit vectors
unfoldable pub begun : List Float → ℕ → State
unfolding symmetrized_entry matrix tabulate
begun a n = state (symmetrized a n) (identity n)

-- ---- the test that stops the sweeps

-- the squares above the diagonal of the rows before row i of m, n by n, as one sum
unfoldable pub above_rows : List Float → ℕ → ℕ → Float
unfolding sum_from
above_rows m n zero = nought
above_rows m n (suc i) = sum_from (above_rows m n i) (n - suc i) (λ d. mul (at m n i (suc i + d)) (at m n i (suc i + d)))

-- (1e-14·1e-14)·max(F, MIN_POSITIVE), for F the sum of all squares of m, n by n, row by row
unfoldable pub tolerance : List Float → ℕ → Float
unfolding sum_from number.max
tolerance m n = mul (mul rel_tol rel_tol) (number.max (total (n * n) (λ k. mul (nth m k) (nth m k))) min_positive)

-- the sum of the squares above the diagonal is below the tolerance
unfoldable pub stops : ℕ → Float → State → Bool
unfolding above_rows
stops n tol s = lt (above_rows s.entries n n) tol

-- ---- sweeps

-- row p has met the first d columns right of the diagonal
unfoldable pub swept_row : ℕ → ℕ → State → ℕ → State
unfolding rotated
swept_row n p s zero = s
swept_row n p s (suc d) = rotated n p (suc p + d) (swept_row n p s d)

-- so have the rows before row p met all
unfoldable pub swept_rows : ℕ → State → ℕ → State
unfolding swept_row
swept_rows n s zero = s
swept_rows n s (suc p) = swept_row n p (swept_rows n s p) (n - suc p)

-- one sweep goes through all pairs p < q, row by row
abbrev pub sweep : ℕ → State → State
sweep n s = swept_rows n s n

-- the state after k sweeps
unfoldable pub after_sweeps : ℕ → State → ℕ → State
unfolding swept_rows
after_sweeps n s zero = s
after_sweeps n s (suc k) = sweep n (after_sweeps n s k)

-- how many sweeps are made: the first k below 64 at which the test stops them, else 64
unfoldable pub sweeps : ℕ → Float → State → ℕ
unfolding first_below stops after_sweeps
sweeps n tol s = first_below 64 (λ k. stops n tol (after_sweeps n s k))

-- the state that is left
unfoldable pub swept : ℕ → Float → State → State
unfolding sweeps after_sweeps
swept n tol s = after_sweeps n s (sweeps n tol s)

-- ---- the order

-- element k of a list of indices
abbrev pub index_at : List ℕ → ℕ → ℕ
index_at l k = get_or l k 0

-- where k goes among the first k, which descend: before the first that is less
unfoldable pub spot : List Float → List ℕ → ℕ → ℕ
unfolding first_below
spot e l k = first_below k (λ j. lt (nth e (index_at l j)) (nth e k))

-- k put into place j of the first k: those from j on move up
unfoldable pub inserted_at : ℕ → ℕ → List ℕ → List ℕ
unfolding tabulate
inserted_at k j l = tabulate (suc k) (λ i. cond (ltb i j) (index_at l i) (cond (eqb i j) k (index_at l (i - 1))))

-- the stable insertion sort: the first k in descending order of e
unfoldable pub order : List Float → ℕ → List ℕ
unfolding spot inserted_at
order e zero = []
order e (suc k) = let l = order e k in inserted_at k (spot e l k) l

-- ---- the call

pub record Eigenpairs : Type 0 where
  pub values : List Float
  pub vectors : List Float

-- the diagonal of m, n by n
abbrev pub diagonal : List Float → ℕ → List Float
diagonal m n = tabulate n (λ i. at m n i i)

-- the eigenvalues e and the columns of v, n by n, in the order l
unfoldable pub arranged : List Float → List Float → ℕ → List ℕ → Eigenpairs
unfolding tabulate matrix
arranged e v n l = record { values = tabulate n (λ k. nth e (index_at l k)); vectors = matrix n n (λ i k. at v n i (index_at l k)) }

-- question 4, and then the eigenpairs of a state in descending order
unfoldable pub pairs_of : ℕ → State → Outcome Eigenpairs
unfolding arranged order finite_entries
pairs_of n s =
    let e = diagonal s.entries n in
    ask question.FiniteEigenvalues (finite_entries e n) (Ok (arranged e s.vectors n (order e n)))

-- the eigenpairs of a, n by n
unfoldable pub eigenpairs : List Float → ℕ → Outcome Eigenpairs
unfolding begun swept tolerance pairs_of
eigenpairs a n = let s = begun a n in pairs_of n (swept n (tolerance s.entries n) s)

-- `mat_symmetric_eigen`
unfoldable pub mat_symmetric_eigen : List Float → ℕ → List Float → List Float → Outcome Eigenpairs
unfolding eigenpairs is_side has_length
mat_symmetric_eigen a n values vectors =
    ask question.Side (is_side n)
    (ask question.Length (has_length a (n * n) && (has_length values n && has_length vectors (n * n)))
    (eigenpairs a n))

-- The answer of a call that writes eigenpairs, and what the two slices hold afterwards: a refusal leaves them as they were.
abbrev pub after_pairs : Outcome Eigenpairs → List Float → List Float → Outcome Unit × List Float × List Float
after_pairs (Err k) values vectors = (Err k, values, vectors)
after_pairs (Ok e) values vectors = (Ok tt, e.values, e.vectors)
