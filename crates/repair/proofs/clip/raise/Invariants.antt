-- The entries before entry i are raised, and the others stay.
use Rattle.std.proofs.Common.{ℕ, ◌≡◌, ◌<◌, ◌≤◌}
use Rattle.dense.specs.Matrix.{nth}
use Rattle.repair.specs.Repair.{raised}
use Rattle.repair.proofs.clip.raise.Given as goal

abbrev pub invariant-loop-x : goal.invariant-loop-x
invariant-loop-x l = record {
  done : (k : ℕ) → k < l.x-index → nth l.e k ≡ raised l.floor (nth l.fn.e k);
  left : (k : ℕ) → l.x-index ≤ k → nth l.e k ≡ nth l.fn.e k;
}
