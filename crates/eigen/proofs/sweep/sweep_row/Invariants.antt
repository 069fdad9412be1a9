-- Row p has met the columns before column q.
use Rattle.eigen.specs.Private.{state_of}
use Rattle.eigen.proofs.Rotations.Sweeps.{RowSwept}
use Rattle.eigen.proofs.sweep.sweep_row.Given as goal

abbrev pub invariant-loop-q : goal.invariant-loop-q
invariant-loop-q l = RowSwept l.n l.p (state_of l.n l.fn.m l.fn.v) l.q l.m l.v
