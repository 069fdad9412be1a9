-- Before turn i the rows before row i are passed over, and their fused tracks stand.
use Rattle.kernel.specs.Lists.{tabulate}
use Rattle.dense.specs.Matrix.{nth}
use Rattle.dense.proofs.Rows.{RowByRow}
use Rattle.merge.specs.Private.{pass_at, passed_row}
use Rattle.merge.proofs.Buffers.Appending.{Growing}
use Rattle.merge.proofs.fusing.fuse_rows.Given as goal

abbrev pub invariant-loop-i : goal.invariant-loop-i
invariant-loop-i l =
    let old = l.initial in
    let passed = passed_row l.d l.floor old.base_values l.ours_values l.theirs_values old.rows in
    let values = pass_at l.d l.floor old.base_values l.ours_values l.theirs_values old.rows in
    record {
      rows : Growing (λ k. tabulate k passed) l.fn.sizes.base 0 old.rows l.i l.i l.rows;
      values : RowByRow (λ r. nth (values r).1) l.fn.sizes.base l.f old.base_values l.i l.base_values;
    }
