-- Before turn j the entries before j are those of f.
use Rattle.std.proofs.Common.{ℕ, ◌<◌}
use Rattle.dense.specs.Matrix.{nth}
use Rattle.dense.proofs.fill.fill.Given as goal

abbrev pub invariant-loop-j : goal.invariant-loop-j
invariant-loop-j g l = (k : ℕ) → k < l.j → goal.F-post g l.f k (nth l.y k)
