-- Before turn i the sum has the terms of the first i planes.
use Rattle.std.proofs.Common.{◌≡◌}
use Rattle.kernel.specs.Number.{mul}
use Rattle.kernel.specs.Constants.{nought}
use Rattle.dense.specs.Matrix.{at, sum_planes_from}
use Rattle.linalg.proofs.sums.trace_cube.Given as goal

abbrev pub invariant-loop-i : goal.invariant-loop-i
invariant-loop-i l = l.s ≡ sum_planes_from nought l.i-counter l.n l.n (λ i j k. mul (mul (at l.m l.n i j) (at l.m l.n j k)) (at l.m l.n k i))
