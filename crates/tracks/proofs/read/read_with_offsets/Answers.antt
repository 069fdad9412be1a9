-- The values and the offsets that are left are the tracks'.
use Rattle.std.proofs.Common.{List, ℕ, ap, ◌∙◌}
use Rattle.std.specs.Prelude.{Ok}
use Rattle.kernel.specs.Answer.{Outcome}
use Rattle.tracks.specs.declared.read.ListSize.{ListSize}
use Rattle.tracks.proofs.Reading.Offsets.{both_whole}
use Rattle.tracks.proofs.read.read_with_offsets.Goals as goal

pub returns : goal.returns
returns c =
    let x = c.args in
    let size = c.in_ok-size.size in
    let told = c.in_ok-size.ensures in
    let answer : Outcome ListSize = Ok size in
    ap (λ (l : List ℕ). (answer, (c.put_tracks.new.values, l))) c.copy_offsets.ensures
    ∙ both_whole x.list.now size told.value x.offsets.now x.values.now c.fields.result c.fields.ensures.0 _ _ c.put_tracks.ensures _ _ told.offsets c.if-values-size.false c.if-offsets-size.false
