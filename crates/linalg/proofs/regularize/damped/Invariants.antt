-- Before turn i the rows before row i are damped.
use Rattle.linalg.proofs.Damping.{DampedRows}
use Rattle.linalg.proofs.regularize.damped.Given as goal

abbrev pub invariant-loop-i : goal.invariant-loop-i
invariant-loop-i l = DampedRows l.a l.alpha l.n l.i l.out
