-- Before turn i the rows before row i are written, and before turn l the first n sums have their first l terms, whatever rule h the calls of f follow.
use Rattle.std.proofs.Common.{ℕ, ◌≡◌, ◌<◌}
use lib.Ieee.{Float}
use Rattle.kernel.specs.Number.{mul}
use Rattle.dense.specs.Matrix.{at, total}
use Rattle.dense.proofs.Rows.{RowByRow}
use Rattle.dense.proofs.Sums.{SumsInFront}
use Rattle.linalg.proofs.product.product_by_rule.Given as goal

abbrev pub invariant-loop-i : goal.invariant-loop-i
invariant-loop-i g l =
    (h : ℕ → ℕ → Float) → ((i q : ℕ) (x : Float) → i < l.m → q < l.k → goal.F-post g l.f i q x → x ≡ h i q)
    → RowByRow (λ i j. total l.k (λ q. mul (h i q) (at l.b l.n q j))) l.m l.n l.initial.out l.i l.out

abbrev pub invariant-loop-l : goal.invariant-loop-l
invariant-loop-l g l =
    (h : ℕ → ℕ → Float) → ((i q : ℕ) (x : Float) → i < l.m → q < l.k → goal.F-post g l.f i q x → x ≡ h i q)
    → SumsInFront (λ j q. mul (h l.i q) (at l.b l.n q j)) l.k l.n l.l l.sums
