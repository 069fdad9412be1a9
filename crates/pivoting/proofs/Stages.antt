-- Laws of the elimination. `stepped` and `columned`: a step and a column from their parts. `PivotFound`: what `pivot_row` answers. `Columns`: k of n columns
-- are reduced, each with a pivot; `columns_more` reduces one more, `columns_never` is refused, and `columns_all` says it of the end.
use Prim.Native.Nat.{ℕ, zero, suc, ◌+◌, ◌-◌, ◌<◌, ◌≤◌}
use native.Mathlib.Omega.{arith}
use native.Mathlib.Numerals.{add-one}
use native.Mathlib.Nat.{add-suc, add-zero, le_antisymm}
use native.Mathlib.Decide.{ℕ_discrete}
use mathlib.Core.Bool.{Bool, true, false, cond}
use mathlib.Core.List.{List}
use mathlib.Core.Path.{◌≡◌, refl, sym, ap, ◌∙◌, subst}
use borrow.Author.Tests.{eq-eqb, ne_eqb}
use lib.Dec.{eqb}
use lib.Ieee.{Float, nan}
use lib.ListN.{length}
use Rattle.kernel.specs.Number.{sub, mul, div}
use Rattle.dense.specs.Matrix.{nth, at, matrix}
use Rattle.kernel.specs.Lists.{tabulate}
use Rattle.dense.proofs.Laws.{nth-tabulate, by_entries, at-matrix, matrix_ext}
use Rattle.std.specs.Prelude.{Ok, Err}
use Rattle.std.specs.List.{SwappedAt}
use Rattle.kernel.specs.Answer.{Outcome, ask}
use Rattle.kernel.specs.declared.question.Question.{Question}
use Rattle.kernel.specs.declared.question.Question.TheVariants as question
use Rattle.kernel.proofs.Answers.{ask_met, answered_inj, refused_inj, never_both}
use Rattle.pivoting.proofs.Pivots.{pivot-row}
use Rattle.pivoting.specs.Pivot.{pivot, taken, swapped, swapped_norms, Stage, stage, pivoted}
use Rattle.pivoting.specs.Solve.{step_entry, column, reduced}

-- the divided pivot row x, and m₁, in which row k stands in place p, make the step
pub stepped : (m x m₁ : List Float) (n w k p : ℕ) → k < w → x ≡ tabulate w (λ j. div (at m w p j) (at m w p k)) → m₁ ≡ matrix n w (λ i j. at m w (cond (eqb i p) k i) j)
    → matrix n w (λ i j. cond (eqb i k) (nth x j) (sub (at m₁ w i j) (mul (at m₁ w i k) (nth x j)))) ≡ matrix n w (step_entry m w k p)
unfolding step_entry swapped
stepped m x m₁ n w k p h e f = matrix_ext n w _ _ (λ i j a b. go i j a b (ℕ_discrete i k))
  where
    divided : (j : ℕ) → j < w → nth x j ≡ div (at m w p j) (at m w p k)
    divided j b = ap (λ (z : List Float). nth z j) e ∙ nth-tabulate w _ j b

    other : (i j : ℕ) → i < n → j < w → at m₁ w i j ≡ at m w (cond (eqb i p) k i) j
    other i j a b = ap (λ (z : List Float). at z w i j) f ∙ at-matrix n w _ i j a b

    go : (i j : ℕ) → i < n → j < w → Dec (i ≡ k) → cond (eqb i k) (nth x j) (sub (at m₁ w i j) (mul (at m₁ w i k) (nth x j))) ≡ step_entry m w k p i j
    go i j a b (yes s) = rw (eq-eqb i k s) (divided j b)
    go i j a b (no s) = rw (ne_eqb i k s, divided j b, other i j a b, other i k a h)

-- the pivot of column k of m, with norms s, is taken, and stands in row p
pub record PivotFound (m s : List Float) (n w k p : ℕ) : Type 0 where
  pub taken_there : taken (pivot m s n w k) ≡ true
  pub row : (pivot m s n w k).row ≡ p
  pub within : p < n

pub pivot_found : (m s : List Float) (n w k : ℕ) {p : ℕ} → length s ≡ n → k < n
    → ◌≡◌ {A = Outcome ℕ} (Ok p) (ask question.PivotRatio (taken (pivot m s (length s) w k)) (Ok (pivot m s (length s) w k).row)) → PivotFound m s n w k p
pivot_found m s n w k {p} l h e =
    let both = ask_met question.PivotRatio (taken (pivot m s n w k)) (Ok (pivot m s n w k).row) (sym (rw l at e)) in
    let row : (pivot m s n w k).row ≡ p = answered_inj both.1 in
    record { taken_there = both.0; row = row; within = subst (λ (x : ℕ). x < n) row (pivot-row m s n w k h refl) }

-- question 6 is met by its test, and refused by it alone
pub ratio_met : (b : Bool) → ◌≡◌ {A = Outcome Unit} (Ok tt) (ask question.PivotRatio b (Ok tt)) → b ≡ true
ratio_met true e = refl
ratio_met false e = never_both e

pub ratio_refused : {A : Type 0} (b : Bool) (v : A) {q : Question} → ◌≡◌ {A = Outcome A} (Err q) (ask question.PivotRatio b (Ok v)) → (b ≡ false) × (q ≡ question.PivotRatio)
ratio_refused true v e = never_both (sym e)
ratio_refused false v e = (refl, refused_inj e)

pub swapped_lem : (n k p : ℕ) (s s₁ : List Float) → length s₁ ≡ n → SwappedAt s s₁ k p → s₁ ≡ swapped_norms n k p s
unfolding swapped
swapped_lem n k p s s₁ l w = by_entries n _ s₁ l (λ i h. go i (ℕ_discrete i k) (ℕ_discrete i p))
  where
    go : (i : ℕ) → Dec (i ≡ k) → Dec (i ≡ p) → nth s₁ i ≡ nth s (swapped k p i)
    go i (yes e) z = rw (eq-eqb i k e) (ap (nth s₁) e ∙ w.0 nan)
    go i (no e) (yes z) = rw (ne_eqb i k e, eq-eqb i p z) (ap (nth s₁) z ∙ w.1 nan)
    go i (no e) (no z) = rw (ne_eqb i k e, ne_eqb i p z) (w.2 i nan e z)

-- the step with the pivot's row, and the norms that change places, make the column
pub columned : (m s m₁ s₁ : List Float) (n w k : ℕ) {p : ℕ} → PivotFound m s n w k p → m₁ ≡ matrix n w (step_entry m w k p) → length s₁ ≡ n → SwappedAt s s₁ k p
    → stage m₁ s₁ ≡ column n w k (stage m s)
unfolding column
columned m s m₁ s₁ n w k {p} b f l g = rw (f, swapped_lem n k p s s₁ l g, b.row)

pub reduced_more : (n w : ℕ) (t : Stage) (k : ℕ) (m s : List Float) {u : Stage} → stage m s ≡ reduced n w t k → u ≡ column n w k (stage m s) → u ≡ reduced n w t (k + 1)
unfolding reduced
reduced_more n w t k m s e f = f ∙ rw (add-one, ← e)

-- where a column has no pivot, no later column helps
pivoted_stays : (n w : ℕ) (f : ℕ → Stage) (k d : ℕ) → pivoted n w f k ≡ false → pivoted n w f (k + d) ≡ false
unfolding pivoted
pivoted_stays n w f k zero e = rw add-zero e
pivoted_stays n w f k (suc d) e = rw (add-suc, pivoted_stays n w f k d e)

-- m and s are the matrix and the norms of stage k
pub record Columns (n w : ℕ) (f : ℕ → Stage) (k : ℕ) (m s : List Float) : Type 0 where
  pub pivots : pivoted n w f k ≡ true
  pub here : stage m s ≡ f k

pub columns_none : {n w : ℕ} {f : ℕ → Stage} {m s : List Float} → stage m s ≡ f 0 → Columns n w f 0 m s
unfolding pivoted
columns_none e = record { pivots = refl; here = e }

module _ {n w : ℕ} {f : ℕ → Stage} {k : ℕ} {m s : List Float} (c : Columns n w f k m s) where
  -- what the pivot of column k says, the whole says of the first k + 1
  next : taken (pivot m s n w k) ≡ pivoted n w f (k + 1)
  unfolding pivoted
  next = rw (add-one, c.pivots, ← c.here)

  pub columns_more : {m₁ s₁ : List Float} → taken (pivot m s n w k) ≡ true → stage m₁ s₁ ≡ f (k + 1) → Columns n w f (k + 1) m₁ s₁
  columns_more r e = record { pivots = sym next ∙ r; here = e }

  -- a column without a pivot refuses the whole
  pub columns_never : k < n → taken (pivot m s n w k) ≡ false → pivoted n w f n ≡ false
  columns_never h r = ap (pivoted n w f) count ∙ pivoted_stays n w f (k + 1) (n - (k + 1)) (sym next ∙ r)
    where
      count : n ≡ k + 1 + (n - (k + 1))
      count = omega arith

pub columns_all : (n w : ℕ) (f : ℕ → Stage) (k : ℕ) (m s : List Float) → Columns n w f k m s → k ≤ n → n ≤ k → Columns n w f n m s
columns_all n w f k m s c h l = let e = le_antisymm h l in record { pivots = sym (ap (pivoted n w f) e) ∙ c.pivots; here = c.here ∙ ap f e }

pub columns_refused : (n w : ℕ) (f : ℕ → Stage) (k : ℕ) (m s : List Float) {q : Question} → Columns n w f k m s → k < n
    → ◌≡◌ {A = Outcome Unit} (Err q) (ask question.PivotRatio (taken (pivot m s n w k)) (Ok tt)) → ◌≡◌ {A = Outcome Unit} (Err q) (ask question.PivotRatio (pivoted n w f n) (Ok tt))
columns_refused n w f k m s c h e = let r = ratio_refused (taken (pivot m s n w k)) tt e in rw (columns_never c h r.0, r.1)

pub columns_next : (n w : ℕ) (t : Stage) (k : ℕ) (m s m₁ s₁ : List Float) → Columns n w (reduced n w t) k m s → taken (pivot m s n w k) ≡ true
    → stage m₁ s₁ ≡ column n w k (stage m s) → Columns n w (reduced n w t) (k + 1) m₁ s₁
columns_next n w t k m s m₁ s₁ c r e = columns_more c r (reduced_more n w t k m s c.here e)

-- a loop over the columns
pub ruleset column_laws = (columns_refused, columns_next, columns_all)
