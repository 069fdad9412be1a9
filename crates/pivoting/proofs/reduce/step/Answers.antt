-- Its three parts make the step.
use Rattle.std.proofs.Common.{◌≡◌, length, ◌∙◌}
use Rattle.pivoting.proofs.Stages.{stepped}
use Rattle.pivoting.proofs.reduce.step.Goals as goal

pub returns : goal.returns
returns c =
    let x = c.args in
    let l : length c.divided_row.new.y ≡ length x.x.now = c.divided_row.auto.y in
    rw l at c.reduce_rows.ensures ∙ stepped x.m.now _ _ _ _ _ _ c.requires.1.column c.divided_row.ensures (rw l at c.copy_row.ensures)
