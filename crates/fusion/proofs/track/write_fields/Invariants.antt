-- Before turn i the state and the rows before row i are written.
use Rattle.fusion.proofs.Triangle.{RowsBefore}
use Rattle.fusion.proofs.track.write_fields.Given as goal

abbrev pub invariant-loop-i : goal.invariant-loop-i
invariant-loop-i l = RowsBefore l.x l.p l.d l.i l.at l.out
