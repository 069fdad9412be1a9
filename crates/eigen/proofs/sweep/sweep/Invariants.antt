-- The rows before row p have met their columns.
use Rattle.eigen.specs.Private.{state_of}
use Rattle.eigen.proofs.Rotations.Sweeps.{RowsSwept}
use Rattle.eigen.proofs.sweep.sweep.Given as goal

abbrev pub invariant-loop-p : goal.invariant-loop-p
invariant-loop-p l = RowsSwept l.n (state_of l.n l.fn.m l.fn.v) l.p l.m l.v
