-- Before turn i the rows from k to i - 1 have lost their parts.
use Rattle.std.proofs.Common.{◌≤◌}
use Rattle.dense.proofs.Rows.{RowByRow}
use Rattle.pivoting.proofs.Determinants.{reduced_below}
use Rattle.pivoting.proofs.det.reduce_below.Given as goal

abbrev pub invariant-loop-i : goal.invariant-loop-i
invariant-loop-i l = record { below : l.k ≤ l.i; rows : RowByRow (reduced_below l.x l.initial.m l.n l.k) l.n l.n l.initial.m l.i l.m }
