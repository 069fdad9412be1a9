-- The entries of row k are as they were when they are read, whether the row stands above row p, below it or in its place.
use Rattle.std.proofs.Common.{◌≡◌, ℕ, ◌+◌, ◌*◌, ◌<◌, ◌≤◌, cond, eqb, length, List, ap, ◌∙◌, arith}
use native.Mathlib.Decide.{ℕ_discrete, dec_lt}
use borrow.Author.Tests.{eq-eqb, ne_eqb}
use lib.Ieee.{Float, nan}
use lib.ListN.{set}
use lib.Seq.{get_or-set_same, get_or-set_other}
use Rattle.kernel.proofs.Lists.{row_within}
use Rattle.dense.specs.Matrix.{nth, at, matrix}
use Rattle.dense.proofs.Laws.{cell, matrix_by_entries}
use Rattle.pivoting.proofs.rows.copy_row.Goals as goal

module _ (a b : List Float) (n w k p j : ℕ) (below : (x : ℕ) → x < p * w → nth b x ≡ nth a x) (from : (x : ℕ) → p * w + j ≤ x → nth b x ≡ nth a x) where
  -- entry j of row k
  source : j < w → nth b (k * w + j) ≡ nth a (k * w + j)
  source h = go (ℕ_discrete k p) (dec_lt k p)
    where
      go : Dec (k ≡ p) → Dec (k < p) → nth b (k * w + j) ≡ nth a (k * w + j)
      go (yes s) z = from (k * w + j) (omega (arith, ap (λ (x : ℕ). x * w) s))
      go (no s) (yes z) = below (k * w + j) (omega (arith, row_within p w {i = k} z))
      go (no s) (no z) = from (k * w + j) (omega (arith, row_within k w {i = p} (omega arith)))

  module _ (copied : (x : ℕ) → x < j → nth b (p * w + x) ≡ nth a (k * w + x)) where
    next : p < n → j < w → length b ≡ n * w → (x : ℕ) → x < j + 1 → nth (set b (p * w + j) (nth b (k * w + j))) (p * w + x) ≡ nth a (k * w + x)
    next h q l x r = go (ℕ_discrete x j)
      where
        go : Dec (x ≡ j) → nth (set b (p * w + j) (nth b (k * w + j))) (p * w + x) ≡ nth a (k * w + x)
        go (yes s) = rw s (get_or-set_same b (p * w + j) (nth b (k * w + j)) nan (omega (arith, cell h q)) ∙ source q)
        go (no s) = get_or-set_other b (p * w + j) (p * w + x) (nth b (k * w + j)) nan (λ e. absurd (omega arith)) ∙ copied x (omega arith)

    all : w ≤ j → j ≤ w → length b ≡ n * w → b ≡ matrix n w (λ i j. at a w (cond (eqb i p) k i) j)
    all e f l = matrix_by_entries n w _ b l (λ i y h q. go i y q (ℕ_discrete i p) (dec_lt i p))
      where
        go : (i y : ℕ) → y < w → Dec (i ≡ p) → Dec (i < p) → at b w i y ≡ at a w (cond (eqb i p) k i) y
        go i y q (yes s) z = rw (eq-eqb i p s) (ap (λ (x : ℕ). at b w x y) s ∙ copied y (omega arith))
        go i y q (no s) (yes z) = rw (ne_eqb i p s) (below (i * w + y) (omega (arith, row_within p w {i = i} z)))
        go i y q (no s) (no z) = rw (ne_eqb i p s) (from (i * w + y) (omega (arith, row_within i w {i = p} (later i s z))))
          where
            later : (i : ℕ) → (i ≡ p → ⊥) → (i < p → ⊥) → p < i
            later i s z = omega arith

pub loop-j-preserved : goal.loop-j-preserved
loop-j-preserved c =
    let x = c.args in
    let l = c.loop-j in
    let w = l.invariant in
    let size : length l.m ≡ x.n * x.w = omega arith in
    record {
      copied = rw (c.entry.ensures) (next x.m.now l.m x.n x.w x.k x.p l.j w.below w.from w.copied (omega arith) c.loop-j-test.true size);
      below = λ y h. get_or-set_other l.m (x.p * x.w + l.j) y c.entry.result nan (λ e. absurd (omega arith)) ∙ w.below y h;
      from = λ y h. get_or-set_other l.m (x.p * x.w + l.j) y c.entry.result nan (λ e. absurd (omega arith)) ∙ w.from y (omega arith);
    }

pub returns : goal.returns
returns c =
    let x = c.args in
    let l = c.loop-j in
    let w = l.invariant in
    all x.m.now l.m x.n x.w x.k x.p l.j w.below w.from w.copied c.loop-j-test.false c.loop-j.auto.j-end (omega arith)
