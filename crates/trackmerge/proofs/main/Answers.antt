-- The rows that a merge counts stand in its buffer, which is short.
use Rattle.std.proofs.Common.{arith}
use Rattle.trackmerge.proofs.main.Goals as goal

pub overflow_add-counts : goal.overflow_add-counts
overflow_add-counts c =
    let d = c.merge.ensures.demanded c.in-Ok.counts c.in-Ok.is in
    omega (arith, d.of_counts.all_rows, d.of_buffer.rows_fit, d.of_buffer.same_length)

pub overflow_add-counts-in-Ok : goal.overflow_add-counts-in-Ok
overflow_add-counts-in-Ok c =
    let d = c.merge.ensures.demanded c.in-Ok.counts c.in-Ok.is in
    omega (arith, d.of_counts.all_rows, d.of_buffer.rows_fit, d.of_buffer.same_length)
