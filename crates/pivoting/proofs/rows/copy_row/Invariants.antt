-- Before turn j the entries of row p before j are those of row k, and the others are as they were.
use Rattle.std.proofs.Common.{◌≡◌, ℕ, ◌+◌, ◌*◌, ◌<◌, ◌≤◌}
use Rattle.dense.specs.Matrix.{nth}
use Rattle.pivoting.proofs.rows.copy_row.Given as goal

abbrev pub invariant-loop-j : goal.invariant-loop-j
invariant-loop-j l = record {
  copied : (x : ℕ) → x < l.j → nth l.m (l.p * l.w + x) ≡ nth l.initial.m (l.k * l.w + x);
  below : (x : ℕ) → x < l.p * l.w → nth l.m x ≡ nth l.initial.m x;
  from : (x : ℕ) → l.p * l.w + l.j ≤ x → nth l.m x ≡ nth l.initial.m x;
}
