-- There have been k sweeps, and no test has stopped them.
use Rattle.eigen.specs.Private.{Slices, state_of}
use Rattle.eigen.proofs.Rotations.Sweeps.{Sweeping}
use Rattle.eigen.proofs.sweep.sweep_until.Given as goal

abbrev pub invariant-loop-k : goal.invariant-loop-k
invariant-loop-k l = record { slices : Slices l.n l.m l.v; sweeping : Sweeping l.n l.tol (state_of l.n l.fn.m l.fn.v) l.k (state_of l.n l.m l.v) }
