-- It is rewritten row by row from row k on, and the row that is lent still is the old one.
use Rattle.std.proofs.Common.{arith, length, ◌∙◌}
use borrow.Author.Tests.{lt-ltb, le-ltb}
use Rattle.kernel.proofs.Lists.{tabulate_ext, row_within}
use Rattle.dense.proofs.Rows.{rows_there, row-lent, row_old, row_written, every_row}
use Rattle.pivoting.proofs.det.reduce_below.Goals as goal

pub loop-i-init : goal.loop-i-init
loop-i-init c =
    let x = c.args in
    let pre = c.requires in
    record { below = omega arith; rows = rows_there pre.matrix (omega arith) (omega (arith, row_within (length x.x.now) (length x.x.now) pre.column)) (λ a j h l. rw (lt-ltb a x.k h)) }

pub pivot_or_below-requires : goal.pivot_or_below-requires
pivot_or_below-requires c = record { column = omega arith; even = omega (arith, row-lent c.loop-i.invariant.rows c.loop-i-test.true) }

pub loop-i-preserved : goal.loop-i-preserved
loop-i-preserved c =
    let x = c.args in
    let rows = c.loop-i.invariant.rows in
    record {
      below = omega arith;
      rows =
          row_written rows c.loop-i-test.true
          (c.pivot_or_below.ensures ∙ tabulate_ext _ _ _ (λ j h. rw (le-ltb _ x.k c.loop-i.invariant.below, row_old rows j h, row_old rows x.k c.requires.column)));
    }

pub returns : goal.returns
returns c = every_row c.loop-i.invariant.rows c.loop-i-test.false
