-- The partners stand in front of two arrays.
use Rattle.std.proofs.Common.{◌*◌, take}
use mathlib.Core.Path.{◌∙◌}
use Rattle.pairing.specs.Keys.{from_keys, first_partners, second_partners}
use Rattle.merge.proofs.Matching.Tables.{new_long, tables_front}
use Rattle.merge.proofs.pairings.partners_by.Goals as goal

pub returns : goal.returns
returns c =
    let x = c.args in
    let keys = take (x.m * x.n) x.keys.now in
    let m = new_long c.requires.few-firsts in
    let n = new_long c.requires.few-seconds in
    tables_front (from_keys keys x.m x.n) _ _
    (c.pair_tracks.ensures.0 ∙ (λ z. first_partners (from_keys keys (m z) (n z))))
    (c.pair_tracks.ensures.1 ∙ (λ z. second_partners (from_keys keys (m z) (n z))))
