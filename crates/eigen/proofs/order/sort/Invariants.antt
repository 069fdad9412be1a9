-- The first k indices are in order.
use Rattle.std.proofs.Common.{◌≡◌, take}
use Rattle.eigen.specs.Eigen.{order}
use Rattle.eigen.proofs.order.sort.Given as goal

abbrev pub invariant-loop-k : goal.invariant-loop-k
invariant-loop-k l = take l.k l.l ≡ order l.e l.k
