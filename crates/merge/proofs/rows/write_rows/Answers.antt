-- The three groups stand one after the other.
use Rattle.std.proofs.Common.{arith}
use Rattle.kernel.proofs.Lists.{length-tabulate}
use Rattle.merge.specs.Rows.{without_base, base_row, ours_row, rows_of}
use Rattle.merge.specs.Private.{undecided, tables_in}
use Rattle.merge.proofs.Buffers.Appending.{appended_more, tabulated}
use Rattle.merge.proofs.Buffers.RowNumbers.{selected-few}
use Rattle.merge.proofs.rows.write_rows.Goals as goal

pub theirs_rows-requires : goal.theirs_rows-requires
theirs_rows-requires c =
    let p = tables_in c.args.p in
    let h = c.requires in
    let few = selected-few c.args.sizes.ours (without_base p) (ours_row undecided p) in
    let next = c.ours_rows-r.ensures.next in
    record {
      few = h.few-theirs;
      start = omega (arith, few, next, h.few-base, h.few-ours);
      room = omega (arith, few, next, h.room, c.base_rows.auto.rows, c.ours_rows-r.auto.rows);
    }

pub returns : goal.returns
unfolding rows_of
returns c =
    let p = tables_in c.args.p in
    let base = base_row undecided p in
    let room = c.requires.room in
    let few = selected-few c.args.sizes.ours (without_base p) (ours_row undecided p) in
    let rest = appended_more _ _ c.ours_rows-r.ensures (omega (arith, few, room, c.base_rows.auto.rows)) c.theirs_rows.ensures in
    appended_more _ _ (tabulated base c.args.sizes.base c.base_rows.ensures) (omega (arith, room, length-tabulate c.args.sizes.base base)) rest
