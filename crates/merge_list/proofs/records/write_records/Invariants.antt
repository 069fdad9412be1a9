-- The records of the rows so far are written.
use Rattle.tracks.proofs.Slices.Laid.{Laid}
use Rattle.merge_list.specs.Private.{sources, rows_in, records_taken}
use Rattle.merge_list.proofs.records.write_records.Given as goal

abbrev pub invariant-loop-row : goal.invariant-loop-row
invariant-loop-row l = Laid l.fn.out 2 (records_taken (sources l.lists l.offsets) (rows_in l.fn.rows l.row-index)) l.at l.out
