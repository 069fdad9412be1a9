-- A track more is in its place.
use Rattle.std.proofs.Common.{ℕ, ◌+◌, ◌*◌, ◌-◌, ◌≡◌, ◌<◌, ◌≤◌, List, [], length, take, drop, refl, sym, ap, ◌∙◌, arith, length-take, length-drop}
use native.Mathlib.Nat.{zero-mul}
use lib.Ieee.{Float, binary64, of_bits}
use lib.ListN.{length-map}
use mathlib.Core.List.{flat_map}
use borrow.Rule.Slice.PartMut.{put_mid}
use Rattle.kernel.proofs.Lists.{row_within}
use Rattle.tracks.specs.Read.{items, track, tracks}
use Rattle.tracks.specs.Calls.{doubles, joined}
use Rattle.tracks.proofs.Reading.Accepted.{track_met}
use Rattle.tracks.proofs.Slices.Laid.{laid_none}
use Rattle.tracks.proofs.Slices.Lists.{row_next, joined_more, put_mid_over}
use Rattle.tracks.proofs.Slices.Putting.{Coming, put_next, put_more, put_all}
use Rattle.tracks.proofs.read.put_tracks.Goals as goal

-- a turn is lent as many values as a track has fields
lent : (values : List Float) (n f j : ℕ) → n * f ≤ length values → j < n → length (take ((j + 1) * f - j * f) (drop (j * f) values)) ≡ f
lent values n f j room h =
    omega (arith, row_within n f {i = j} h, row_next f j, room, length-take ((j + 1) * f - j * f) (drop (j * f) values), length-drop (j * f) values)

pub loop-j-init : goal.loop-j-init
unfolding items joined flat_map
loop-j-init c = record { turns = omega arith; taken = record { value = []; next = 2 }; accepted = refl; end = refl; laid = rw zero-mul laid_none }

pub put_track-at-requires : goal.put_track-at-requires
unfolding tracks
put_track-at-requires c =
    let l = c.loop-j in
    let f = c.fields-f in
    let next = put_next l.invariant c.requires.accepted.1 c.loop-j-test.true in
    let room : c.args.size.count * f.result ≤ length l.values = omega (arith, ap (λ (k : ℕ). c.args.size.count * k) f.ensures.0, c.requires.room, l.auto.values) in
    record { small = c.requires.small; long = lent l.values c.args.size.count f.result l.j room c.loop-j-test.true ∙ f.ensures.0; accepted = (next.item, next.here) }

pub loop-j-preserved : goal.loop-j-preserved
unfolding tracks
loop-j-preserved c =
    let x = c.args in
    let l = c.loop-j in
    let f = c.fields-f in
    let next : Coming (λ _. track x.list.now x.size.dimension) l.j l.invariant.taken.next l.at = put_next l.invariant c.requires.accepted.1 c.loop-j-test.true in
    let long : length next.item.value.values ≡ f.result = (track_met x.list.now x.size.dimension l.at next.item next.here).long ∙ sym f.ensures.0 in
    let room = row_within x.size.count f.result {i = l.j} c.loop-j-test.true in
    put_more l.invariant next (λ u. u.values) c.loop-j-test.true (joined_more _ _)
    (omega (arith, room, long, ap (λ (k : ℕ). x.size.count * k) f.ensures.0, c.requires.room)) (omega (arith, row_next f.result l.j, long))
    (λ t e.
    let p = c.put_track-at.ensures t e in
    let n = (l.j + 1) * f.result - l.j * f.result in
    let whole = (track_met x.list.now x.size.dimension l.at t e).long in (
      p.0,
      ap (put_mid (l.j * f.result) n l.values) p.1 ∙ put_mid_over l.values (doubles t.value.values) (l.j * f.result) n
          (omega (arith, length-map t.value.values (of_bits binary64), whole, f.ensures.0, row_next f.result l.j)),
    ))

pub returns : goal.returns
unfolding tracks
returns c = put_all c.loop-j.invariant c.loop-j-test.false
