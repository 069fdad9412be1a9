-- The sum has the rows before row i.
use Rattle.std.proofs.Common.{◌≡◌}
use Rattle.eigen.specs.Eigen.{above_rows}
use Rattle.eigen.proofs.sweep.above.Given as goal

abbrev pub invariant-loop-i : goal.invariant-loop-i
invariant-loop-i l = l.s ≡ above_rows l.m l.n l.i-counter
