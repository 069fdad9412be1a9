-- What a swept state answers: `pairs-refused` and `pairs_made`, from what the code's functions give; from the start, `swept-from` and `answered-by`.
use Prim.Native.Nat.{ℕ}
use native.Mathlib.Decide.{ℕ_discrete}
use mathlib.Core.Bool.{Bool, true, false}
use mathlib.Core.List.{List}
use lib.ListN.{length}
use mathlib.Core.Path.{◌≡◌, sym, ap, ◌∙◌, subst}
use borrow.Author.Tests.{ne_eqb}
use lib.Ieee.{Float}
use Rattle.kernel.specs.Lists.{tabulate}
use Rattle.kernel.proofs.Lists.{length-tabulate}
use Rattle.dense.specs.Matrix.{nth, at, matrix, unit_entry, identity, finite_entries}
use Rattle.dense.proofs.Laws.{at-matrix, matrix_ext}
use Rattle.dense.proofs.Tests.{met, unmet}
use Rattle.eigen.specs.Eigen.{index_at, order, diagonal, arranged, pairs_of, after_pairs, symmetrized, begun, tolerance, swept, eigenpairs}
use Rattle.eigen.specs.Rotation.{State}
use Rattle.eigen.specs.Private.{Below, Ordering, state_of, final}
use Rattle.eigen.proofs.Ordering.Orders.{length-order, order_below}
use Rattle.kernel.specs.Answer.{Outcome}
use Rattle.std.specs.Prelude.{Ok, Err}
use Rattle.kernel.specs.declared.question.Question.TheVariants as question

pub ordering : (e : List Float) (n : ℕ) {l : List ℕ} → l ≡ order e n → Ordering n l
ordering e n p = subst (λ (z : List ℕ). Ordering n z) (sym p) (record { size = length-order e n; below = order_below e n })

-- the diagonal by another name of the side
pub diagonal_of : (m : List Float) {e : List Float} {k n : ℕ} → e ≡ diagonal m k → k ≡ n → e ≡ diagonal m n
diagonal_of m p q = p ∙ ap (diagonal m) q

pub length_diagonal : (m : List Float) (n : ℕ) {e : List Float} → e ≡ diagonal m n → length e ≡ n
length_diagonal m n p = ap length p ∙ length-tabulate n _

module _ (n : ℕ) (m v values vectors : List Float) where
  pub pairs-refused : {e : List Float} {b : Bool} → e ≡ diagonal m n → b ≡ finite_entries e (length e) → b ≡ false
      → ◌≡◌ {A = Outcome Unit × List Float × List Float} (Err question.FiniteEigenvalues, values, vectors) (after_pairs (pairs_of n (state_of n m v)) values vectors)
  unfolding pairs_of
  pairs-refused {e} p q t = let q' : finite_entries e n ≡ false = ap (finite_entries e) (sym (length_diagonal m n p)) ∙ unmet q t in rw (← p, q')

  -- the vectors stand as rows
  columns : (l : List ℕ) → Below n n l → matrix n n (λ i k. at v n (index_at l k) i) ≡ matrix n n (λ i k. at (matrix n n (λ a b. at v n b a)) n i (index_at l k))
  unfolding Below
  columns l h = matrix_ext n n _ _ (λ i k a b. sym (at-matrix n n (λ x y. at v n y x) i (index_at l k) a (h k b)))

  pub pairs_made : {e x y : List Float} {l : List ℕ} {b : Bool} → e ≡ diagonal m n → b ≡ finite_entries e (length e) → b ≡ true → l ≡ order e (length e)
      → x ≡ tabulate (length e) (λ k. nth e (index_at l k)) → y ≡ matrix n n (λ i k. at v n (index_at l k) i)
      → ◌≡◌ {A = Outcome Unit × List Float × List Float} (Ok tt, x, y) (after_pairs (pairs_of n (state_of n m v)) values vectors)
  unfolding pairs_of arranged
  pairs_made {e} {x} {y} {l} p q t o f g =
      let long = length_diagonal m n p in
      let o' : l ≡ order e n = o ∙ ap (order e) long in
      let q' : finite_entries e n ≡ true = ap (finite_entries e) (sym long) ∙ met q t in
      let f' : x ≡ tabulate n (λ k. nth e (index_at l k)) = f ∙ ap (λ (k : ℕ). tabulate k (λ i. nth e (index_at l i))) long in
      rw (← p, q', ← o', f', g ∙ columns l (ordering e n o').below)

-- ---- from the start

-- the unit vectors are the same as rows and as columns
unit-rows : (n : ℕ) → matrix n n (λ i j. at (identity n) n j i) ≡ identity n
unit-rows n = matrix_ext n n _ _ (λ i j h k. at-matrix n n unit_entry j i k h ∙ go i j (ℕ_discrete i j))
  where
    go : (i j : ℕ) → Dec (i ≡ j) → unit_entry j i ≡ unit_entry i j
    go i j (yes e) = rw e
    go i j (no e) = rw (ne_eqb i j e, ne_eqb j i (λ w. e (sym w)))

module _ (a : List Float) (n : ℕ) where
  pub swept-from : {m v : List Float} {tol : Float} {s : State} → m ≡ symmetrized a n → v ≡ identity n → tol ≡ tolerance m n → s ≡ swept n tol (state_of n m v)
      → s ≡ final a n
  unfolding begun
  swept-from em ev et es = es ∙ rw (et, em, ev, unit-rows n)

  pub answered-by : {s : State} (values vectors : List Float) {r : Outcome Unit × List Float × List Float} → s ≡ final a n → r ≡ after_pairs (pairs_of n s) values vectors
      → r ≡ after_pairs (eigenpairs a n) values vectors
  unfolding eigenpairs
  answered-by values vectors es er = er ∙ ap (λ (z : State). after_pairs (pairs_of n z) values vectors) es
