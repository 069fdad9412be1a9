-- Before turn i the rows before i are those of f, and in row i before turn j the entries before j.
use Rattle.dense.proofs.Cells.{Cells}
use Rattle.dense.proofs.fill.fill_matrix.Given as goal

abbrev pub invariant-loop-i : goal.invariant-loop-i
invariant-loop-i g l = Cells (goal.F-post g l.f) l.n l.i 0 l.out

abbrev pub invariant-loop-j : goal.invariant-loop-j
invariant-loop-j g l = Cells (goal.F-post g l.f) l.n l.i l.j l.out
