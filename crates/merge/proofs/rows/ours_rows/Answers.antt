-- In each turn the row of a track of ours that has no base track is one more.
use Rattle.std.proofs.Common.{refl, arith}
use borrow.Author.Tests.{eq-eqb, ne_eqb}
use Rattle.merge.specs.Rows.{selected}
use Rattle.merge.proofs.Buffers.Appending.{no_turn, selected_room, selected_put, selected_passed}
use Rattle.merge.proofs.rows.ours_rows.Goals as goal
use Rattle.merge.proofs.rows.ours_rows.Goals.{then-base_of-j, else-base_of-j}

pub loop-j-init : goal.loop-j-init
unfolding selected
loop-j-init c = no_turn refl

pub put_row-r-requires : goal.put_row-r-requires
put_row-r-requires c = selected_room _ _ c.loop-j.invariant (omega arith) c.requires

pub loop-j-preserved : goal.loop-j-preserved
loop-j-preserved c =
    let w = c.loop-j.invariant in
    elim c.if-base_of-j.branch [
      | then-base_of-j t ↦ rw (t.rows-is, t.r-is) (selected_put _ _ w (omega arith) c.requires (eq-eqb _ 255 t.if-base_of-j.true) t.put_row-r.ensures)
      | else-base_of-j t ↦ rw (t.rows-is, t.r-is) (selected_passed _ _ w (omega arith) c.requires (ne_eqb _ 255 t.if-base_of-j.false))
    ]
