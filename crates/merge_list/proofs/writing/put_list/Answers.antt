-- The offsets are those of the three lists.
use Rattle.merge_list.specs.Private.{sources, located, rows_in}
use Rattle.merge_list.proofs.Taken.{list_laid}
use Rattle.merge_list.proofs.writing.put_list.Goals as goal

pub returns-clause-writes : goal.returns-clause-writes
returns-clause-writes c =
    let x = c.args in
    let w = c.write_records.ensures in
    list_laid (located x.lists) _ (rows_in x.rows.now x.total) x.list.now _
    (λ i. sources x.lists (record { base = (c.track_offsets.ensures i).1; ours = (c.track_offsets-2.ensures i).1; theirs = (c.track_offsets-3.ensures i).1 }))
    c.requires.counted c.requires.room w.0 w.1
