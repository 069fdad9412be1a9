-- It is rewritten row by row, and the row that is lent still is the old one.
use Rattle.std.proofs.Common.{arith, ◌∙◌}
use Rattle.kernel.proofs.Lists.{tabulate_ext}
use Rattle.dense.proofs.Rows.{no_row, row-lent, row_old, row_written, every_row}
use Rattle.pivoting.proofs.reduce.reduce_rows.Goals as goal

pub loop-i-init : goal.loop-i-init
loop-i-init c = no_row c.requires.matrix

pub reduce_row-requires : goal.reduce_row-requires
reduce_row-requires c = record { column = omega arith; even = omega (arith, row-lent c.loop-i.invariant c.loop-i-test.true) }

pub loop-i-preserved : goal.loop-i-preserved
loop-i-preserved c =
    let rows = c.loop-i.invariant in
    row_written rows c.loop-i-test.true
    (c.reduce_row.ensures ∙ tabulate_ext _ _ _ (λ j h. rw (row_old rows j h, row_old rows c.args.k c.requires.column)))

pub returns : goal.returns
returns c = every_row c.loop-i.invariant c.loop-i-test.false
