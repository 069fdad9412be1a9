-- Before turn k the first k columns are reduced, and the sign and the product are those of their pivots.
use Rattle.std.proofs.Common.{length}
use Rattle.pivoting.specs.Pivot.{stage}
use Rattle.pivoting.specs.Det.{triangulated}
use Rattle.pivoting.proofs.Determinants.{Multiplying}
use Rattle.pivoting.proofs.det.signed_product.Given as goal

abbrev pub invariant-loop-k : goal.invariant-loop-k
invariant-loop-k l = Multiplying (length l.initial.s) (triangulated (length l.initial.s) (stage l.initial.m l.initial.s)) l.k l.m l.s l.sign l.det
