-- The rows before row i have the copy.
use Rattle.eigen.proofs.Rotations.Cells.{Cells}
use Rattle.eigen.proofs.Rotations.Stores.{mirrored_to}
use Rattle.eigen.proofs.rotate.mirror.Given as goal

abbrev pub invariant-loop-i : goal.invariant-loop-i
invariant-loop-i l = Cells l.n (mirrored_to l.n l.p l.fn.m l.i) l.m
