-- Four bytes are written.
use Rattle.std.proofs.Common.{ℕ, ◌+◌, ◌*◌, ◌-◌, [], ◌∷◌, refl, arith}
use mathlib.Core.Path.{ap, ◌∙◌}
use borrow.Rule.Slice.PartMut.{put_mid}
use Rattle.tracks.proofs.Slices.Lists.{put_mid_over}
use Rattle.merge.specs.Private.{undecided_row}
use Rattle.merge.proofs.Buffers.Appending.{appended_one}
use Rattle.merge.proofs.rows.put_row.Goals as goal

pub returns : goal.returns
returns c =
    let x = c.args in
    let bytes = c.copy_from_slice.ensures.after ∙ ap (λ (v : ℕ). x.i ∷ x.j ∷ x.k ∷ v ∷ []) c.from.ensures in
    appended_one (undecided_row x.i x.j x.k) refl
    (ap (put_mid (4 * x.r) (4 * x.r + 4 - 4 * x.r) x.rows.now) bytes ∙ put_mid_over x.rows.now _ (4 * x.r) _ (omega arith))
