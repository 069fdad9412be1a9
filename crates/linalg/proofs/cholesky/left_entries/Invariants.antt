-- Before turn j the slice holds the entries of row i before j.
use Rattle.linalg.specs.Private.{Padded}
use Rattle.linalg.specs.Cholesky.{with_left, factor}
use Rattle.linalg.proofs.cholesky.left_entries.Given as goal

abbrev pub invariant-loop-j : goal.invariant-loop-j
invariant-loop-j l = Padded (with_left l.a l.n (factor l.a l.n l.i) l.i l.j) l.l
