-- Laws of the reduction below the diagonal: one step from its parts (`forward_stepped`), and one column more of the matrix (`triangulated_more`), of the sign (`sign_more`)
-- and of the product (`product_more`).
use Prim.Native.Nat.{ℕ, ◌+◌, ◌*◌, ◌<◌, ◌≤◌}
use native.Mathlib.Omega.{arith}
use native.Mathlib.Numerals.{add-one}
use native.Mathlib.Decide.{dec_lt, ℕ_discrete}
use mathlib.Core.Bool.{true, cond}
use mathlib.Core.List.{List}
use mathlib.Core.Path.{◌≡◌, sym, ap, ◌∙◌}
use borrow.Author.Tests.{eq-eqb, ne_eqb, lt-ltb, le-ltb}
use lib.Dec.{eqb, ltb}
use lib.Ieee.{Float}
use Rattle.kernel.specs.Number.{mul}
use Rattle.dense.specs.Matrix.{nth, at, row_of, matrix}
use Rattle.kernel.specs.Lists.{tabulate}
use Rattle.kernel.proofs.Lists.{length-tabulate}
use Rattle.dense.proofs.Laws.{nth-tabulate, by_entries, at-matrix, matrix_ext, length-row, nth-row}
use Rattle.std.specs.List.{SwappedAt}
use Rattle.pivoting.proofs.Stages.{PivotFound, swapped_lem, Columns}
use lib.ListN.{length}
use Rattle.pivoting.specs.Pivot.{row_norm, row_norms, some_scale, swapped, Stage, stage}
use Rattle.pivoting.specs.Det.{forward_entry, forward_step, triangulated, flipped, swap_sign, pivot_product, signed_product, determinant}
use Rattle.pivoting.specs.Private.{pivot_or_below}

-- entry (i, j) when row k of m, of n columns, becomes x, and every row below it loses its part of x
abbrev pub reduced_below : List Float → List Float → ℕ → ℕ → ℕ → ℕ → Float
reduced_below x m n k i j = cond (ltb i k) (at m n i j) (pivot_or_below (nth x) (at m n i) k i j)

-- the pivot row x, and m₁, in which row k stands in place p, make the step
pub forward_stepped : (m x m₁ : List Float) (n k p : ℕ) → k < n → x ≡ tabulate n (at m n p) → m₁ ≡ matrix n n (λ i j. at m n (cond (eqb i p) k i) j)
    → matrix n n (reduced_below x m₁ n k) ≡ matrix n n (forward_entry m n k p)
unfolding forward_entry swapped
forward_stepped m x m₁ n k p h e f = matrix_ext n n _ _ (λ i j a b. go i j a b (dec_lt i k) (ℕ_discrete i k))
  where
    copied : (j : ℕ) → j < n → nth x j ≡ at m n p j
    copied j b = ap (λ (z : List Float). nth z j) e ∙ nth-tabulate n _ j b

    other : (i j : ℕ) → i < n → j < n → at m₁ n i j ≡ at m n (cond (eqb i p) k i) j
    other i j a b = ap (λ (z : List Float). at z n i j) f ∙ at-matrix n n _ i j a b

    go : (i j : ℕ) → i < n → j < n → Dec (i < k) → Dec (i ≡ k) → reduced_below x m₁ n k i j ≡ forward_entry m n k p i j
    go i j a b (yes l) q = rw (lt-ltb i k l, le-ltb k i (omega arith), ne_eqb i k (λ s. absurd (omega arith)), other i j a b)
    go i j a b (no l) (yes s) = rw (le-ltb i k (omega arith), le-ltb k i (omega arith), eq-eqb i k s, copied j b)
    go i j a b (no l) (no s) = rw (le-ltb i k (omega arith), lt-ltb k i (below i l s), ne_eqb i k s, copied j b, copied k h, other i j a b, other i k a h)
      where
        below : (i : ℕ) → (i < k → ⊥) → (i ≡ k → ⊥) → k < i
        below i l s = omega arith

-- row i of m, by its entries
pub row_entries : (m : List Float) (n i : ℕ) → i * n + n ≤ length m → row_of m n i ≡ tabulate n (at m n i)
row_entries m n i h = by_entries n _ (row_of m n i) (length-row m n i h) (λ j l. nth-row m n i j l)

module _ (n : ℕ) (f : ℕ → Stage) (k : ℕ) {m s : List Float} {p : ℕ} (here : stage m s ≡ f k) (best : PivotFound m s n n k p) where
  pub sign_more : {g r : Float} → g ≡ swap_sign n f k → r ≡ flipped g k p → r ≡ swap_sign n f (k + 1)
  unfolding swap_sign
  sign_more e q = q ∙ rw (add-one, e, ← best.row, ← here)

  pub product_more : {d v : Float} → d ≡ pivot_product n f k → v ≡ at m n p k → mul d v ≡ pivot_product n f (k + 1)
  unfolding pivot_product
  product_more e q = rw (add-one, e, q, ← best.row, ← here)

pub triangulated_more : (n : ℕ) (t : Stage) (k : ℕ) (m s m₁ s₁ : List Float) {p : ℕ} → stage m s ≡ triangulated n t k → PivotFound m s n n k p
    → m₁ ≡ matrix n n (forward_entry m n k p) → length s₁ ≡ n → SwappedAt s s₁ k p → stage m₁ s₁ ≡ triangulated n t (k + 1)
unfolding triangulated forward_step
triangulated_more n t k m s m₁ s₁ {p} here best e l q = rw (add-one, e, swapped_lem n k p s s₁ l q, ← best.row, ← here)

-- the first k columns are reduced, as f says, and sign and product are those of their pivots
pub record Multiplying (n : ℕ) (f : ℕ → Stage) (k : ℕ) (m s : List Float) (sign det : Float) : Type 0 where
  pub columns : Columns n n f k m s
  pub flips : sign ≡ swap_sign n f k
  pub product : det ≡ pivot_product n f k

-- question 5 is met, and the copy of a with its norms has the signed product r
pub determined : (a m s : List Float) (n k : ℕ) {r : Float} → m ≡ a → length s ≡ n → s ≡ row_norms a k → some_scale (length s) s ≡ true
    → r ≡ signed_product (length s) (triangulated (length s) (stage m s)) → r ≡ determinant a n
unfolding determinant
determined a m s n k {r} e l f t q = rw (sym (rw same at f), rw l at t, sym e) (rw l at q)
  where
    same : k ≡ n
    same = sym (ap length f ∙ length-tabulate k (row_norm a k)) ∙ l
