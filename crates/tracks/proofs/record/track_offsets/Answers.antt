-- The offsets that are left are the tracks'.
use Rattle.std.proofs.Common.{List, ℕ, ap, ◌∙◌, arith}
use Rattle.std.specs.Prelude.{Ok}
use Rattle.kernel.specs.Answer.{Outcome}
use Rattle.tracks.specs.declared.read.ListSize.{ListSize}
use Rattle.tracks.proofs.Reading.Offsets.{told_whole}
use Rattle.tracks.proofs.record.track_offsets.Goals as goal

pub returns : goal.returns
returns c =
    let answer : Outcome ListSize = Ok c.in_ok-size.size in
    let told = c.in_ok-size.ensures in
    ap (λ (l : List ℕ). (answer, l)) c.copy_offsets.ensures ∙ told_whole _ _ told.value _ _ _ told.offsets (omega (arith, c.if-offsets-size.false))
