-- The rows are the front of the array.
use Rattle.merge_list.specs.Private.{list_asked}
use Rattle.merge_list.proofs.Left.{left_written}
use Rattle.merge_list.proofs.write_merged.Goals as goal

pub returns : goal.returns
returns c =
    let x = c.args in
    let k = c.in_ok-length.ensures in
    left_written (list_asked x.lists x.found.now x.counts _) x.counts x.found.now x.rows.now x.out.now c.requires.list.takes.stand.room
    k.value k.out_after c.copy_from_slice.ensures.after
