-- Before turn j the entries before j are written, and the others stay.
use Rattle.std.proofs.Common.{ℕ, ◌≡◌, ◌<◌, ◌≤◌}
use Rattle.dense.specs.Matrix.{nth}
use Rattle.dense.proofs.fill.combine.Given as goal

abbrev pub invariant-loop-j : goal.invariant-loop-j
invariant-loop-j g l = record {
  done : (k : ℕ) → k < l.j → goal.F-post g l.f (nth l.initial.y k) (nth l.x k) (nth l.y k);
  left : (k : ℕ) → l.j ≤ k → nth l.y k ≡ nth l.initial.y k;
}
