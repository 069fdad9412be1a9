-- Rows p and q are turned before column j.
use Rattle.eigen.proofs.Rotations.Cells.{Cells}
use Rattle.eigen.proofs.Rotations.Stores.{turned_to}
use Rattle.eigen.proofs.rotate.turn_rows.Given as goal

abbrev pub invariant-loop-j : goal.invariant-loop-j
invariant-loop-j l = Cells l.n (turned_to l.g l.n l.p l.q l.fn.m l.j) l.m
