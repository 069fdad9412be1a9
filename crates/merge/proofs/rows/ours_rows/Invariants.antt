-- Before turn j the rows of those of the first j tracks of ours are written that have no base track.
use Rattle.merge.specs.Private.{ours_group}
use Rattle.merge.proofs.Buffers.Appending.{Growing}
use Rattle.merge.proofs.rows.ours_rows.Given as goal

abbrev pub invariant-loop-j : goal.invariant-loop-j
invariant-loop-j l = Growing (ours_group l.base_of l.theirs_of) l.n l.at l.initial.rows l.j l.r l.rows
