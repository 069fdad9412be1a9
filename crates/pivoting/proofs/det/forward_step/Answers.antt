-- Its three parts make the step.
use Rattle.std.proofs.Common.{arith, ◌≡◌, length, ◌∙◌}
use Rattle.kernel.proofs.Lists.{row_within}
use Rattle.pivoting.proofs.Determinants.{forward_stepped, row_entries}
use Rattle.pivoting.proofs.det.forward_step.Goals as goal

pub returns : goal.returns
returns c =
    let x = c.args in
    let n = length x.x.now in
    let l : length c.copy_from_slice.new.self ≡ n = c.copy_from_slice.auto.self in
    let copied = c.copy_from_slice.ensures.after ∙ c.row.ensures.1 ∙ row_entries x.m.now n x.p (omega (arith, row_within n n {i = x.p} c.requires.row)) in
    rw l at c.reduce_below.ensures ∙ forward_stepped x.m.now _ _ n x.k x.p c.requires.column copied c.copy_row.ensures
