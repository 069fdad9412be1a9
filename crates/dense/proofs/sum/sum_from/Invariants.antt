-- After j turns the sum is that of the first j terms, whatever rule h the calls of f follow.
use Rattle.std.proofs.Common.{ℕ, ◌≡◌, ◌<◌}
use lib.Ieee.{Float}
use Rattle.kernel.proofs.Loops.{AfterTurns}
use Rattle.dense.specs.Matrix.{sum_from}
use Rattle.dense.proofs.sum.sum_from.Given as goal

abbrev pub invariant-loop-j : goal.invariant-loop-j
invariant-loop-j g l =
    (h : ℕ → Float) → ((j : ℕ) (x : Float) → j < l.n → goal.F-post g l.f j x → x ≡ h j) → AfterTurns (λ k. sum_from l.start k h) l.n l.j l.s
