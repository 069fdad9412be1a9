-- Before turn i the rows of the first i base tracks are written.
use Rattle.merge.specs.Private.{base_group}
use Rattle.merge.proofs.Buffers.Appending.{Growing}
use Rattle.merge.proofs.rows.base_rows.Given as goal

abbrev pub invariant-loop-i : goal.invariant-loop-i
invariant-loop-i l = Growing (base_group l.ours_of l.theirs_of) l.m 0 l.initial.rows l.i l.i l.rows
