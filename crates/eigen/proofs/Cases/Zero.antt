-- The zero matrix, of any order: no test stops its sweeps (`zero-sweeps`), no pair of it is rotated (`zero-rotated`), its eigenvalues are 0.0 and its vectors the
-- identity (`zero-eigenpairs`).
use Prim.Native.Nat as Nat
use Prim.Native.Nat.{ℕ, zero, suc, ◌+◌, ◌*◌, ◌-◌, ◌<◌, ◌≤◌}
use native.Mathlib.Omega.{arith}
use native.Mathlib.Decide.{ℕ_discrete}
use mathlib.Core.Bool.{Bool, true, false}
use mathlib.Core.List.{List}
use mathlib.Core.Path.{◌≡◌, refl, sym, ap, ◌∙◌}
use borrow.Author.Tests.{eq-eqb, ne_eqb, lt-ltb, le-ltb}
use lib.Ieee as Ieee
use lib.Ieee.{Float, lt, of_bits}
use Rattle.kernel.specs.Constants.{nought, half, rel_tol, min_positive}
use Rattle.kernel.specs.First.{first_below}
use Rattle.kernel.specs.Lists.{tabulate}
use Rattle.kernel.specs.Number.{add, mul, max, abs}
use Rattle.dense.specs.Matrix.{sum_from, nth, at, matrix, unit_entry, identity, finite_entries}
use Rattle.dense.proofs.Laws.{cell, nth-tabulate, at-matrix, matrix_ext, matrix_by_entries}
use Rattle.kernel.proofs.Lists.{length-tabulate, tabulate_ext}
use Rattle.eigen.specs.Eigen.{symmetrized_entry, begun, above_rows, tolerance, stops, swept_row, swept_rows, after_sweeps, sweeps, swept}
use Rattle.eigen.specs.Eigen.{index_at, spot, order, diagonal, arranged, pairs_of, eigenpairs}
use Rattle.eigen.proofs.Ordering.Orders.{index_inserted, inserted_element, order_below}
use Rattle.eigen.proofs.Answered.{eigenpairs-final}
use Rattle.eigen.proofs.Ordering.Sorting.{order-suc}
use Rattle.eigen.specs.Private.{Below}
use Rattle.eigen.specs.Rotation.{State, state, negligible, rotated}
use Rattle.std.specs.Prelude.{Ok}

-- ---- a test that never holds

pub first_never : (n : ℕ) (test : ℕ → Bool) → ((j : ℕ) → j < n → test j ≡ false) → first_below n test ≡ n
unfolding first_below
first_never zero test h = refl
first_never (suc n) test h = rw (first_never n test (λ j l. h j (omega arith)), h n (omega arith))

-- ---- 0.0

plus_nought : add nought nought ≡ nought
unfolding Ieee.add of_bits
plus_nought = refl

times-nought : mul nought nought ≡ nought
unfolding Ieee.mul of_bits
times-nought = refl

half-nought : mul half nought ≡ nought
unfolding Ieee.mul of_bits
half-nought = refl

never_less : lt nought nought ≡ false
unfolding lt of_bits
never_less = refl

-- the tolerance underflows
underflow : mul (mul rel_tol rel_tol) (max nought min_positive) ≡ nought
unfolding Ieee.mul max lt Ieee.is_nan of_bits
underflow = refl

-- every pair is negligible
pub nought-negligible : negligible nought nought nought ≡ true
unfolding negligible Ieee.mul abs max lt Ieee.is_nan of_bits
nought-negligible = refl

-- a sum of such squares
squares : (n : ℕ) (x : Float) (f : ℕ → Float) → x ≡ nought → ((l : ℕ) → l < n → f l ≡ nought) → sum_from x n (λ l. mul (f l) (f l)) ≡ nought
unfolding sum_from
squares zero x f e h = e
squares (suc n) x f e h = rw (squares n x f e (λ l k. h l (omega arith)), h n (omega arith), times-nought) plus_nought

-- ---- the zero matrix

abbrev pub zeros : ℕ → List Float
zeros n = matrix n n (λ i j. nought)

at-zeros : (n i j : ℕ) → i < n → j < n → at (zeros n) n i j ≡ nought
at-zeros n i j h k = at-matrix n n (λ a b. nought) i j h k

nth-zeros : (n k : ℕ) → k < n * n → nth (zeros n) k ≡ nought
nth-zeros n k h = ap (λ (l : List Float). nth l k) (sym flat) ∙ nth-tabulate (n * n) (λ x. nought) k h
  where
    flat : tabulate (n * n) (λ x. nought) ≡ zeros n
    flat = matrix_by_entries n n (λ i j. nought) _ (length-tabulate (n * n) _) (λ i j p q. nth-tabulate (n * n) (λ x. nought) (i * n + j) (cell p q))

zero-tolerance : (n : ℕ) → tolerance (zeros n) n ≡ nought
unfolding tolerance
zero-tolerance n = rw (squares (n * n) nought (nth (zeros n)) refl (nth-zeros n)) underflow

zero-above : (n i : ℕ) → i ≤ n → above_rows (zeros n) n i ≡ nought
unfolding above_rows
zero-above n zero h = refl
zero-above n (suc i) h = squares (n - suc i) _ (λ d. at (zeros n) n i (suc i + d)) (zero-above n i (omega arith)) (λ d k. at-zeros n i (suc i + d) (omega arith) (omega arith))

module _ (n : ℕ) (v : List Float) where
  -- no pair is rotated
  pub zero-rotated : (p q : ℕ) → p < n → q < n → rotated n p q (state (zeros n) v) ≡ state (zeros n) v
  unfolding rotated
  zero-rotated p q h k = rw (at-zeros n p p h h, at-zeros n p q h k, at-zeros n q q k k, nought-negligible)

  zero_row : (p d : ℕ) → p < n → p + d < n → swept_row n p (state (zeros n) v) d ≡ state (zeros n) v
  unfolding swept_row
  zero_row p zero h k = refl
  zero_row p (suc d) h k = rw (zero_row p d h (omega arith)) (zero-rotated p (suc p + d) h (omega arith))

  zero-rows : (p : ℕ) → p ≤ n → swept_rows n (state (zeros n) v) p ≡ state (zeros n) v
  unfolding swept_rows
  zero-rows zero h = refl
  zero-rows (suc p) h = rw (zero-rows p (omega arith)) (zero_row p (n - suc p) h (omega arith))

  zero-after : (k : ℕ) → after_sweeps n (state (zeros n) v) k ≡ state (zeros n) v
  unfolding after_sweeps
  zero-after zero = refl
  zero-after (suc k) = rw (zero-after k) (zero-rows n (omega arith))

  zero_test : (k : ℕ) → stops n (tolerance (zeros n) n) (after_sweeps n (state (zeros n) v) k) ≡ false
  unfolding stops
  zero_test k = rw (zero-after k, zero-above n n (omega arith), zero-tolerance n) never_less

  -- no test stops it
  pub zero-sweeps : sweeps n (tolerance (zeros n) n) (state (zeros n) v) ≡ 64
  unfolding sweeps
  zero-sweeps = first_never 64 _ (λ k h. zero_test k)

  zero-swept : swept n (tolerance (zeros n) n) (state (zeros n) v) ≡ state (zeros n) v
  unfolding swept
  zero-swept = zero-after (sweeps n (tolerance (zeros n) n) (state (zeros n) v))

zero-begun : (n : ℕ) → begun (zeros n) n ≡ state (zeros n) (identity n)
unfolding begun symmetrized_entry
zero-begun n = ap (λ (m : List Float). state m (identity n)) (matrix_ext n n (symmetrized_entry (zeros n) n) (λ i j. nought) (λ i j h k. go i j h k (ℕ_discrete i j)))
  where
    go : (i j : ℕ) → i < n → j < n → Dec (i ≡ j) → symmetrized_entry (zeros n) n i j ≡ nought
    go i j h k (yes e) = rw (eq-eqb i j e) (at-zeros n i j h k)
    go i j h k (no e) =
        rw (ne_eqb i j e, at-zeros n (Nat.min i j) (Nat.max i j) (omega arith) (omega arith), at-zeros n (Nat.max i j) (Nat.min i j) (omega arith) (omega arith), plus_nought) half-nought

-- ---- the order of equal numbers

-- none of the first n entries of e is less than another
unfoldable Level : List Float → ℕ → Type 0
Level e n = (i j : ℕ) → i < n → j < n → lt (nth e i) (nth e j) ≡ false

level-spot : (e : List Float) (n k : ℕ) → Level e n → k < n → spot e (order e k) k ≡ k
unfolding Level spot Below
level-spot e n k w h = first_never k _ (λ j b. w (index_at (order e k) j) k (omega (arith, order_below e k j b)) h)

level-order : (e : List Float) (n : ℕ) → Level e n → (k : ℕ) → k ≤ n → (i : ℕ) → i < k → index_at (order e k) i ≡ i
level-order e n w zero h i l = absurd (omega arith)
level-order e n w (suc k) h i l = rw (order-suc e k, level-spot e n k w h) (index_inserted k k (order e k) i l ∙ go (ℕ_discrete i k) (level-order e n w k (omega arith) i))
  where
    go : Dec (i ≡ k) → (i < k → index_at (order e k) i ≡ i) → inserted_element k k (order e k) i ≡ i
    go (yes s) f = rw (le-ltb i k (omega arith), eq-eqb i k s) (sym s)
    go (no s) f = let b : i < k = omega (arith, s) in rw (lt-ltb i k b) (f b)

-- ---- what is answered

module _ (n : ℕ) where
  -- the diagonal
  abbrev zero-values : List Float
  zero-values = diagonal (zeros n) n

  nth-values : (i : ℕ) → i < n → nth zero-values i ≡ nought
  nth-values i h = nth-tabulate n (λ k. at (zeros n) n k k) i h ∙ at-zeros n i i h h

  level : Level zero-values n
  unfolding Level
  level i j h k = rw (nth-values i h, nth-values j k) never_less

  finite_to : (k : ℕ) → k ≤ n → finite_entries zero-values k ≡ true
  unfolding finite_entries of_bits
  finite_to zero h = refl
  finite_to (suc k) h = rw (finite_to k (omega arith), nth-values k h)

  ordered : (i : ℕ) → i < n → index_at (order zero-values n) i ≡ i
  ordered = level-order zero-values n level n (omega arith)

  zero-arranged : arranged zero-values (identity n) n (order zero-values n) ≡ record { values = tabulate n (λ k. nought); vectors = identity n }
  unfolding arranged
  zero-arranged =
      ap (λ (l : List Float). record { values = l; vectors = matrix n n (λ i k. at (identity n) n i (index_at (order zero-values n) k)) })
      (tabulate_ext n _ _ (λ k h. ap (nth zero-values) (ordered k h) ∙ nth-values k h))
      ∙ ap (λ (m : List Float). record { values = tabulate n (λ k. nought); vectors = m })
      (matrix_ext n n _ unit_entry (λ i k h b. ap (λ (j : ℕ). at (identity n) n i j) (ordered k b) ∙ at-matrix n n unit_entry i k h b))

  zero-pairs : pairs_of n (state (zeros n) (identity n)) ≡ Ok (record { values = tabulate n (λ k. nought); vectors = identity n })
  unfolding pairs_of
  zero-pairs = rw (finite_to n (omega arith)) (ap Ok zero-arranged)

  pub zero-eigenpairs : eigenpairs (zeros n) n ≡ Ok (record { values = tabulate n (λ k. nought); vectors = identity n })
  zero-eigenpairs = eigenpairs-final (zeros n) n ∙ ap (λ (s : State). pairs_of n (swept n (tolerance s.entries n) s)) (zero-begun n) ∙ ap (pairs_of n) (zero-swept n (identity n)) ∙ zero-pairs
