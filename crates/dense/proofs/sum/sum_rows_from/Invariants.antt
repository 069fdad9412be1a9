-- After i turns the sum is that of the first i rows, and after j turns more there are j terms of row i in it, whatever rule h the calls of f follow.
use Rattle.std.proofs.Common.{ℕ, ◌≡◌, ◌<◌}
use lib.Ieee.{Float}
use Rattle.kernel.proofs.Loops.{AfterTurns}
use Rattle.dense.specs.Matrix.{sum_from, sum_rows_from}
use Rattle.dense.proofs.sum.sum_rows_from.Given as goal

abbrev pub invariant-loop-i : goal.invariant-loop-i
invariant-loop-i g l =
    (h : ℕ → ℕ → Float) → ((i j : ℕ) (x : Float) → i < l.m → j < l.n → goal.F-post g l.f i j x → x ≡ h i j)
    → AfterTurns (λ k. sum_rows_from l.start k l.n h) l.m l.i l.s

abbrev pub invariant-loop-j : goal.invariant-loop-j
invariant-loop-j g l =
    (h : ℕ → ℕ → Float) → ((i j : ℕ) (x : Float) → i < l.m → j < l.n → goal.F-post g l.f i j x → x ≡ h i j)
    → AfterTurns (λ k. sum_from (sum_rows_from l.start l.i l.n h) k (h l.i)) l.n l.j l.s
