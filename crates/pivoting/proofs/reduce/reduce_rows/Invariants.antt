-- Before turn i the rows before row i are reduced.
use Rattle.dense.specs.Matrix.{nth, at}
use Rattle.dense.proofs.Rows.{RowByRow}
use Rattle.pivoting.specs.Solve.{cleared_entry}
use Rattle.pivoting.proofs.reduce.reduce_rows.Given as goal

abbrev pub invariant-loop-i : goal.invariant-loop-i
invariant-loop-i l = RowByRow (λ i. cleared_entry (nth l.x) (at l.initial.m l.w i) l.k i) l.n l.w l.initial.m l.i l.m
