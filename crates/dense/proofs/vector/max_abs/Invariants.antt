-- It is the greatest size among the entries so far.
use Rattle.std.proofs.Common.{◌≡◌}
use Rattle.dense.specs.Matrix.{max_abs}
use Rattle.dense.proofs.vector.max_abs.Given as goal

abbrev pub invariant-loop-y : goal.invariant-loop-y
invariant-loop-y l = l.g ≡ max_abs l.x l.y-index
