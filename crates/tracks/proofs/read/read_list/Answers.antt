-- The values that are left are the tracks'.
use Rattle.std.proofs.Common.{refl}
use Rattle.tracks.proofs.Reading.Known.{reading_left}
use Rattle.tracks.proofs.read.read_list.Goals as goal

pub returns-clause-values_after : goal.returns-clause-values_after
returns-clause-values_after c =
    let x = c.args in
    reading_left x.list.now c.in_ok-size.size c.in_ok-size.ensures _ c.fields.result c.fields.ensures.0 x.values.now _ _ refl c.if-values-size.false c.put_tracks.ensures
