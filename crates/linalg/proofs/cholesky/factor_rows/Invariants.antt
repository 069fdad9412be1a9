-- Before turn i the slice holds the rows above row i, whose pivots are met.
use Rattle.std.proofs.Common.{◌≡◌, true}
use Rattle.linalg.specs.Private.{Padded}
use Rattle.linalg.specs.Cholesky.{factor, definite}
use Rattle.linalg.proofs.cholesky.factor_rows.Given as goal

abbrev pub invariant-loop-i : goal.invariant-loop-i
invariant-loop-i l = record {
  pivots : definite l.a l.n l.i ≡ true;
  rows : Padded (factor l.a l.n l.i) l.l;
}
