-- No norm so far is large enough.
use Rattle.std.proofs.Common.{◌≡◌, false}
use Rattle.pivoting.specs.Pivot.{some_scale}
use Rattle.pivoting.proofs.norms.some_scale.Given as goal

abbrev pub invariant-loop-x : goal.invariant-loop-x
invariant-loop-x l = some_scale l.x-index l.s ≡ false
