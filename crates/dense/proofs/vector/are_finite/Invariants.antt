-- The entries so far are finite.
use Rattle.std.proofs.Common.{◌≡◌, true}
use Rattle.dense.specs.Matrix.{finite_entries}
use Rattle.dense.proofs.vector.are_finite.Given as goal

abbrev pub invariant-loop-y : goal.invariant-loop-y
invariant-loop-y l = finite_entries l.x l.y-index ≡ true
