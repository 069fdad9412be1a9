-- All bytes of the map are written.
use Rattle.std.proofs.Common.{ℕ, ◌+◌, ◌-◌, ◌≡◌, length, take, drop, ap, ◌∙◌, arith, length-take, length-drop}
use Rattle.kernel.specs.Lists.{tabulate, over}
use Rattle.kernel.proofs.Lists.{by_elements}
use Rattle.tracks.specs.Write.{map_byte, map_of}
use Rattle.tracks.specs.Private.{track_of_doubles}
use Rattle.tracks.proofs.Slices.Lists.{put_mid_over}
use Rattle.tracks.proofs.Records.Bytes.{map_length}
use Rattle.tracks.proofs.write.write_map.Goals as goal

pub returns : goal.returns
unfolding map_of
returns c =
    let x = c.args in
    let l = c.loop-b in
    let n = c.map_bytes-n.result in
    let t = track_of_doubles x.v.now in
    let part : length (take (x.at + n - x.at) (drop x.at x.out.now)) ≡ n =
    omega (arith, length-take (x.at + n - x.at) (drop x.at x.out.now), length-drop x.at x.out.now, c.requires.1, c.map_bytes-n.ensures.0) in
    let long : length l.x-items ≡ n = l.auto.x-items ∙ part in
    let whole = by_elements 0 n (map_byte t) l.x-items long (λ i h. l.invariant i (omega (arith, h, part, c.loop-b-test.false))) ∙ ap (λ (k : ℕ). tabulate k (map_byte t)) c.map_bytes-n.ensures.0 in
    (omega (arith, map_length x.d t, c.map_bytes-n.ensures.0), put_mid_over x.out.now l.x-items x.at (x.at + n - x.at) (omega (arith, long)) ∙ ap (over x.out.now x.at) whole)
