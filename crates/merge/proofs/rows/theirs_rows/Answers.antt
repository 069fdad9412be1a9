-- In each turn the row of a track that has neither is one more.
use Rattle.std.proofs.Common.{refl, arith}
use Rattle.std.proofs.lemmas.Bool.{and_from, and_left, and_right}
use borrow.Author.Tests.{eq-eqb, ne_eqb}
use Rattle.merge.specs.Rows.{selected}
use Rattle.merge.proofs.Buffers.Appending.{no_turn, selected_room, selected_put, selected_passed}
use Rattle.merge.proofs.rows.theirs_rows.Goals as goal
use Rattle.merge.proofs.rows.theirs_rows.Goals.{then-base_of-k+then-ours_of-k, else-base_of-k, else-base_of-k-via-then-base_of-k+else-ours_of-k, else-base_of-k-via-else-base_of-k}

pub loop-k-init : goal.loop-k-init
unfolding selected
loop-k-init c = no_turn refl

pub put_row-r-requires : goal.put_row-r-requires
put_row-r-requires c = selected_room _ _ c.loop-k.invariant (omega arith) c.requires

pub loop-k-preserved : goal.loop-k-preserved
loop-k-preserved c =
    let w = c.loop-k.invariant in
    elim c.if-base_of-k.branch [
      | then-base_of-k+then-ours_of-k t ↦
          rw (t.rows-is, t.r-is) (selected_put _ _ w (omega arith) c.requires (and_from _ _ (eq-eqb _ 255 t.if-base_of-k.true) (eq-eqb _ 255 t.if-ours_of-k.true)) t.put_row-r.ensures)
      | else-base_of-k t ↦
          rw (t.rows-is, t.r-is) (selected_passed _ _ w (omega arith) c.requires (elim t.else-base_of-k.branch [
            | else-base_of-k-via-then-base_of-k+else-ours_of-k v ↦ and_right _ _ (ne_eqb _ 255 v.if-ours_of-k.false)
            | else-base_of-k-via-else-base_of-k v ↦ and_left _ _ (ne_eqb _ 255 v.if-base_of-k.false)
          ]))
    ]
