-- Before turn k the rows of those of the first k tracks of theirs are written that have neither.
use Rattle.merge.specs.Private.{theirs_group}
use Rattle.merge.proofs.Buffers.Appending.{Growing}
use Rattle.merge.proofs.rows.theirs_rows.Given as goal

abbrev pub invariant-loop-k : goal.invariant-loop-k
invariant-loop-k l = Growing (theirs_group l.base_of l.ours_of) l.l l.at l.initial.rows l.k l.r l.rows
