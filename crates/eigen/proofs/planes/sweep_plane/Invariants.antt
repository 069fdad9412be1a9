-- There have been k sweeps, and no test has stopped them.
use Rattle.eigen.specs.Private.{plane_state}
use Rattle.eigen.proofs.Rotations.Sweeps.{Sweeping}
use Rattle.eigen.proofs.planes.sweep_plane.Given as goal

abbrev pub invariant-loop-k : goal.invariant-loop-k
invariant-loop-k l = Sweeping 2 l.tol (plane_state l.fn.s) l.k (plane_state l.p)
